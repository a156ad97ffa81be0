use Rattle.std.proofs.Common.{ℕ, false, sym, ◌∙◌, ◌+◌, ◌-◌, ◌≡◌, ap, arith, inl, inr, eqb}
use Rattle.std.proofs.lemmas.Bool.{cases_eq, cases_lt}
use Rattle.std.proofs.lemmas.Nat.Bits.{bit_at-zero}
use Rattle.vp_dots.specs.Dots.{bit}
use Rattle.vp_glyph.specs.Halves.{half_dot}
use Rattle.vp_field.proofs.Columns.{white_half}
use Rattle.vp_field.proofs.square.are_white.Goals as goal

no_bit : (k : ℕ) → bit 0 k ≡ false
unfolding bit
no_bit k = ap (λ b. eqb b 1) (bit_at-zero k)

pub loop-i-preserved : goal.loop-i-preserved
loop-i-preserved g c = record {
  within = omega arith;
  white = λ j l. elim (cases_lt j c.loop-i.i) [
    | inl y ↦ c.loop-i.invariant.white j y
    | inr n ↦
        let e : c.loop-i.i + (j - c.loop-i.i) ≡ j = omega arith in
        rw (sym e) (c.inked.ensures.white (j - c.loop-i.i) (omega arith) (ap (λ v. bit v (j - c.loop-i.i)) c.if-inked-ne0.false ∙ no_bit (j - c.loop-i.i)))
  ];
}

pub loop-i-2-preserved : goal.loop-i-2-preserved
loop-i-2-preserved g c = grind (arith, cases_eq)

pub returns : goal.returns
returns g c = λ e i x l. ap (λ v. half_dot v x) (c.loop-i-2.invariant.white i (omega arith)) ∙ white_half x
