use Rattle.std.proofs.Common.{◌∙◌, ◌%◌, ◌-◌, ◌^◌, ◌/◌, ap, sym, arith, length}
use Rattle.vp_inflate.specs.Bits.{aligned}
use Rattle.vp_inflate.proofs.BitWords.{length_bits, within_drop, aligned_held}
use Rattle.vp_inflate.proofs.held.Held.aligned.Goals as goal

pub invariant_of-result : goal.invariant_of-result
invariant_of-result c =
    let s = c.self.inside in
    record { within = within_drop (s.count % 8) s.count s.hold c.self.invariant.within (omega arith); few = omega (arith, c.self.invariant.few) }

pub returns-clause-value : goal.returns-clause-value
returns-clause-value c = sym (aligned_held c.self.inside.count c.self.inside.hold) ∙ ap aligned c.self.view_is

pub returns-clause-within : goal.returns-clause-within
returns-clause-within c =
    let s = c.self.inside in
    omega (arith, length_bits (s.count - s.count % 8) (s.hold / 2 ^ (s.count % 8)), length_bits s.count s.hold, ap length c.self.view_is)
