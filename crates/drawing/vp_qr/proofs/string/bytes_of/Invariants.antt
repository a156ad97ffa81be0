use Rattle.std.proofs.Common.{◌≡◌, ◌*◌, ◌+◌, ◌++◌, length}
use Rattle.vp_qr.specs.Strings.{bytes_of}
use Rattle.vp_qr.proofs.string.bytes_of.Given as goal

abbrev pub invariant-loop-left : goal.invariant-loop-left
invariant-loop-left l =
    (l.words.items ++ bytes_of l.left ≡ bytes_of l.string)
    × (8 * length l.words.items + length l.left ≡ length l.string)

abbrev pub decreases-loop-left : goal.decreases-loop-left
decreases-loop-left l = length l.left
