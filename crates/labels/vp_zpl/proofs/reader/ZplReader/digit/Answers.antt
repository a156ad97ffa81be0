use Rattle.std.proofs.Common.{◌∙◌, [], ◌∷◌, refl, arith}
use Rattle.std.proofs.lemmas.Bool.Decides.{nat_tests}
use Rattle.vp_zpl.specs.declared.reader.Phase.TheVariants as phases
use Rattle.vp_zpl.specs.declared.item.DataBytes.TheVariants as known
use Rattle.vp_zpl.proofs.Phases.{data_shows, at_phase, at_indicator, text_goes}
use Rattle.vp_zpl.proofs.reader.ZplReader.digit.Goals as goal

pub returns-in-Some : goal.returns-in-Some
returns-in-Some c reading before command stands p =
    let r = c.args.self.now in let q = phases.AfterDigit c.args.x c.args.high in
    let h = at_phase r before command q stands p in
    data_shows _ (record r { phase = phases.Text }) _ (known.One (c.in-Some.both ∷ [])) before command
    c.args.byte c.data.ensures.event
    c.data.ensures.state (text_goes r before command _ (c.in-Some.both ∷ []) [] _ phases.Text _ stands h.1
    (at_indicator r before command q stands p)
    (λ y. refl) (λ _ _ g. g) (grind (arith, h.0, c.hex_byte.ensures)))

pub returns-then-byte-x : goal.returns-then-byte-x
returns-then-byte-x c reading before command stands p =
    let x = c.args.x in let r = c.args.self.now in let q = phases.AfterDigit x c.args.high in
    let h = at_phase r before command q stands p in
    data_shows _ (record r { phase = phases.AfterIndicator x }) _ (known.Two (x ∷ c.args.high ∷ [])) before
    command c.args.byte
    c.data-then-byte-x.ensures.event c.data-then-byte-x.ensures.state
    (text_goes r before command _ (x ∷ c.args.high ∷ []) (x ∷ []) _ (phases.AfterIndicator x) _ stands h.1
    (at_indicator r before command q stands p)
    (λ y. refl) (λ _ e g. (e ∙ h.0, g)) (grind (arith, nat_tests, h.0, c.hex_byte.ensures)))

pub returns : goal.returns
returns c reading before command stands p =
    let r = c.args.self.now in let q = phases.AfterDigit c.args.x c.args.high in
    let h = at_phase r before command q stands p in
    data_shows _ (record r { phase = phases.Text }) _
    (known.Three (c.args.x ∷ c.args.high ∷ c.args.byte ∷ [])) before command c.args.byte
    c.data-2.ensures.event c.data-2.ensures.state
    (text_goes r before command _ (c.args.x ∷ c.args.high ∷ c.args.byte ∷ []) [] _ phases.Text _ stands h.1
    (at_indicator r before command q stands p)
    (λ y. refl) (λ _ _ g. g) (grind (arith, nat_tests, h.0, c.hex_byte.ensures)))
