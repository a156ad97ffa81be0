use Rattle.std.proofs.Common.{◌≡◌, ◌++◌, length}
use Rattle.vp_qr.specs.Segments.{alphanumeric_bits}
use Rattle.vp_qr.proofs.segment.push_alphanumeric.Given as goal

abbrev pub invariant-loop-left : goal.invariant-loop-left
invariant-loop-left l = l.string.items ++ alphanumeric_bits l.left ≡ l.initial.string.items ++ alphanumeric_bits l.characters

abbrev pub decreases-loop-left : goal.decreases-loop-left
decreases-loop-left l = length l.left
