use Rattle.std.proofs.Common.{◌∙◌, [], ◌∷◌, ap, refl, arith}
use Rattle.std.proofs.lemmas.Bool.Decides.{nat_tests}
use Rattle.vp_zpl.specs.declared.reader.Phase.TheVariants as phases
use Rattle.vp_zpl.specs.declared.item.DataBytes.TheVariants as known
use Rattle.vp_zpl.proofs.Phases.{data_shows, at_phase, at_indicator, text_goes}
use Rattle.vp_zpl.proofs.reader.ZplReader.text.Goals as goal

pub returns-in_default : goal.returns-in_default
returns-in_default c reading before command stands p =
    let r = c.args.self.now in
    data_shows _ (record r { phase = phases.Text }) _ (known.One (c.args.byte ∷ [])) before command
    c.args.byte c.data.ensures.event
    (c.data.ensures.state
    ∙ ap (λ z. record c.args.self.now { phase = z; known = known.One (c.args.byte ∷ []) }) p)
    (text_goes r before command _ (c.args.byte ∷ []) [] _ phases.Text _ stands
    (at_phase r before command phases.Text stands p)
    (at_indicator r before command phases.Text stands p) (λ y. refl) (λ _ _ g. g) (grind arith))

pub returns-then-byte-x : goal.returns-then-byte-x
returns-then-byte-x c reading before command stands p =
    let r = c.args.self.now in
    text_goes r before command _ [] (c.args.byte ∷ []) _ (phases.AfterIndicator c.args.byte) r.known stands
    (at_phase r before command phases.Text stands p) (at_indicator r before command phases.Text stands p)
    (λ y. refl)
    (λ _ e g. (grind arith, g)) (grind (arith, nat_tests))

pub returns : goal.returns
returns c reading before command stands p =
    let r = c.args.self.now in
    data_shows _ (record r { phase = phases.Text }) _ (known.One (c.args.byte ∷ [])) before command
    c.args.byte c.data-2.ensures.event
    (c.data-2.ensures.state
    ∙ ap (λ z. record c.args.self.now { phase = z; known = known.One (c.args.byte ∷ []) }) p)
    (text_goes r before command _ (c.args.byte ∷ []) [] _ phases.Text _ stands
    (at_phase r before command phases.Text stands p)
    (at_indicator r before command phases.Text stands p) (λ y. refl) (λ _ _ g. g) (grind (arith, nat_tests)))
