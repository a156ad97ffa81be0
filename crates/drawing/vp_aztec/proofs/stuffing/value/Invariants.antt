use Rattle.std.proofs.Common.{◌≡◌}
use Rattle.vp_aztec.specs.Stuffing.{value}
use Rattle.vp_aztec.proofs.stuffing.value.Given as goal

abbrev pub invariant-loop-k : goal.invariant-loop-k
invariant-loop-k l = l.value ≡ value l.bits l.i l.k
