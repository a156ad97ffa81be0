use Rattle.std.proofs.Common.{ℕ, ◌+◌, not, eqb, refl, sym, ap, ◌∙◌, arith, get_or}
use Rattle.std.proofs.lemmas.Bool.{le-ltb, lt-ltb, ne_eqb, eq-eqb}
use Rattle.vp_field.proofs.AsWhole.{half_more, half_less, plain_half}
use Rattle.vp_field.proofs.Columns.{white_half}
use Rattle.vp_field.proofs.plain.half_of_plain.Goals as goal
use Rattle.vp_field.proofs.plain.half_of_plain.Goals.{then-halves-from-ne0, else-halves-from-ne0}

pub loop-i-init : goal.loop-i-init
loop-i-init c = λ d. white_half d ∙ rw (le-ltb d 0 (omega arith)) refl

pub loop-i-preserved : goal.loop-i-preserved
loop-i-preserved c =
    let black = λ (d : ℕ). not (eqb (get_or c.args.halves.now (c.args.from + d) 0) 0) in
    elim c.if-halves-from-ne0.branch [
      | then-halves-from-ne0 w ↦ λ d. half_more black c.loop-i.half _ c.loop-i.i d (omega arith) (c.loop-i.invariant d) w.half-is (ap not (ne_eqb _ 0 w.if-halves-from-ne0.true))
      | else-halves-from-ne0 w ↦ rw w.half-is (λ d. half_less black c.loop-i.half c.loop-i.i d (c.loop-i.invariant d) (ap not (eq-eqb _ 0 w.if-halves-from-ne0.false)))
    ]

pub returns : goal.returns
returns c = λ i x l h. c.loop-i.invariant i ∙ rw (lt-ltb i c.loop-i.i (omega (arith, l))) (sym (plain_half (get_or c.args.halves.now (c.args.from + i) 0) x h (c.requires.plain (c.args.from + i) (omega (arith, l)))))
