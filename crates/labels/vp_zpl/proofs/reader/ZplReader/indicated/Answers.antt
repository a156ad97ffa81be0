use Rattle.std.proofs.Common.{◌∙◌, [], ◌∷◌, ap, refl, arith}
use Rattle.std.proofs.lemmas.Bool.Decides.{nat_tests}
use Rattle.vp_zpl.specs.declared.reader.Phase.TheVariants as phases
use Rattle.vp_zpl.specs.declared.item.DataBytes.TheVariants as known
use Rattle.vp_zpl.proofs.Phases.{data_shows, at_phase, at_indicator, text_goes}
use Rattle.vp_zpl.proofs.reader.ZplReader.indicated.Goals as goal

pub returns-in-Some : goal.returns-in-Some
returns-in-Some c reading before command stands p =
    let r = c.args.self.now in let q = phases.AfterIndicator c.args.x in
    let h = at_phase r before command q stands p in
    text_goes r before command _ [] (c.args.x ∷ c.args.byte ∷ []) _ (phases.AfterDigit c.args.x c.args.byte)
    r.known stands h.1
    (at_indicator r before command q stands p) (λ y. refl) (λ _ e g. (e ∙ h.0, g))
    (grind (arith, h.0, c.hex.ensures))

pub returns-then-byte-x : goal.returns-then-byte-x
returns-then-byte-x c reading before command stands p =
    let r = c.args.self.now in let q = phases.AfterIndicator c.args.x in
    let h = at_phase r before command q stands p in
    data_shows _ (record r { phase = q }) _ (known.One (c.args.x ∷ [])) before command c.args.byte
    c.data.ensures.event
    (c.data.ensures.state
    ∙ ap (λ z. record c.args.self.now { phase = z; known = known.One (c.args.x ∷ []) }) p)
    (text_goes r before command _ (c.args.x ∷ []) (c.args.x ∷ []) _ q _ stands h.1
    (at_indicator r before command q stands p)
    (λ y. refl) (λ _ e g. (e ∙ h.0, g)) (grind (arith, nat_tests, h.0, c.hex.ensures)))

pub returns : goal.returns
returns c reading before command stands p =
    let r = c.args.self.now in let q = phases.AfterIndicator c.args.x in
    let h = at_phase r before command q stands p in
    data_shows _ (record r { phase = phases.Text }) _ (known.Two (c.args.x ∷ c.args.byte ∷ [])) before command
    c.args.byte
    c.data-2.ensures.event c.data-2.ensures.state
    (text_goes r before command _ (c.args.x ∷ c.args.byte ∷ []) [] _ phases.Text _ stands h.1
    (at_indicator r before command q stands p)
    (λ y. refl) (λ _ _ g. g) (grind (arith, nat_tests, h.0, c.hex.ensures)))
