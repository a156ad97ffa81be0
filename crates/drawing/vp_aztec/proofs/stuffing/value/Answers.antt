use Rattle.std.proofs.Common.{arith, subst, sym, ℕ, ◌≡◌, ◌<◌, ◌^◌}
use Rattle.vp_aztec.specs.Stuffing.{value}
use Rattle.vp_aztec.proofs.StuffWords.{value_none, value_small, value_below, value_more}
use Rattle.vp_aztec.proofs.stuffing.value.Goals as goal

pub loop-k-init : goal.loop-k-init
loop-k-init c = sym (value_none c.args.bits.now c.args.i)

pub overflow_mul-value : goal.overflow_mul-value
overflow_mul-value c = omega (arith, value_below c.args.bits.now c.args.i c.loop-k.k c.loop-k.value (omega arith) c.loop-k.invariant)

pub overflow_add-value : goal.overflow_add-value
overflow_add-value c = omega (arith, value_below c.args.bits.now c.args.i c.loop-k.k c.loop-k.value (omega arith) c.loop-k.invariant, c.bit.ensures.small)

pub loop-k-preserved : goal.loop-k-preserved
loop-k-preserved c = grind (arith, value_more c.args.bits.now c.args.i c.loop-k.k)

pub returns-clause-small : goal.returns-clause-small
returns-clause-small c =
    let e : c.loop-k.k ≡ c.args.n = omega arith in
    subst (λ (v : ℕ). v < 2 ^ c.args.n) (sym c.loop-k.invariant) (subst (λ (k : ℕ). value c.args.bits.now c.args.i k < 2 ^ c.args.n) (sym e) (value_small c.args.bits.now c.args.i c.args.n))
