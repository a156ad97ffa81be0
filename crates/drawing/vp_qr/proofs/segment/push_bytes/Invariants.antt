use Rattle.std.proofs.Common.{◌≡◌, ◌++◌, length}
use Rattle.vp_qr.specs.Segments.{byte_bits}
use Rattle.vp_qr.proofs.segment.push_bytes.Given as goal

abbrev pub invariant-loop-left : goal.invariant-loop-left
invariant-loop-left l = l.string.items ++ byte_bits l.left ≡ l.initial.string.items ++ byte_bits l.bytes

abbrev pub decreases-loop-left : goal.decreases-loop-left
decreases-loop-left l = length l.left
