use Rattle.std.proofs.Common.{inl, inr, ◌≡◌, eqb, eq-eqb, MatchBool, Some, None, sym, ap, ◌∙◌}
use Rattle.std.proofs.lemmas.Bool.{cases_eq, ne_eqb}
use Rattle.vp_join.specs.Told.{Told}
use Rattle.vp_join.specs.Passes.{Tells}
use Rattle.vp_join.proofs.passes.is_of_size.Goals as goal

pub returns-in_default : goal.returns-in_default
returns-in_default c = λ b r h t. let k : Some c.in_default.field-0 ≡ None = sym (c.in_default.ensures b r h) ∙ ap (λ (x : Told). x.offence) t.whole_is in cc

pub returns-then-told-size : goal.returns-then-told-size
returns-then-told-size c = λ b r h t. c.if-told-size.true (ap (λ (x : Told). x.so.width) (sym (c.in-Ok.ensures b r h) ∙ t.whole_is))

pub returns : goal.returns
returns c = λ b r h. elim (cases_eq c.in-Ok.told.height c.args.size.height) as (λ _. MatchBool (eqb c.in-Ok.told.height c.args.size.height) (Tells b c.args.size) (Tells b c.args.size → ⊥)) [
  | inl y ↦ rw (eq-eqb c.in-Ok.told.height c.args.size.height y) (record { rows = r; whole_is = rw (c.if-told-size.false, y) at (c.in-Ok.ensures b r h) })
  | inr n ↦ rw (ne_eqb c.in-Ok.told.height c.args.size.height n) (λ t. n (ap (λ (x : Told). x.so.height) (sym (c.in-Ok.ensures b r h) ∙ t.whole_is)))
]
