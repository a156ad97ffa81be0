use Rattle.std.proofs.Common.{arith, ◌*◌}
use Rattle.std.proofs.Math.Nat.{div-le_self}
use Rattle.vp_aztec.proofs.symbol.Aztec.module.Goals as goal

pub ring_module-requires-clause-k : goal.ring_module-requires-clause-k
ring_module-requires-clause-k c = omega (arith, div-le_self c.ring_place-place.result (2 * c.core-core.result), c.ring_place-place.ensures.most)
