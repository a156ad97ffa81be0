use Rattle.std.proofs.Common.{◌≡◌, ◌++◌, length}
use Rattle.vp_qr.specs.Segments.{numeric_bits}
use Rattle.vp_qr.proofs.segment.push_numeric.Given as goal

abbrev pub invariant-loop-left : goal.invariant-loop-left
invariant-loop-left l = l.string.items ++ numeric_bits l.left ≡ l.initial.string.items ++ numeric_bits l.digits

abbrev pub decreases-loop-left : goal.decreases-loop-left
decreases-loop-left l = length l.left
