use Rattle.std.proofs.Common.{◌≡◌, length}
use Rattle.vp_pdf417.specs.Written.{pushed, written}
use Rattle.vp_pdf417.proofs.NumberWords.{groups_of}
use Rattle.vp_pdf417.proofs.numeric.push_numeric.Given as goal

abbrev pub invariant-loop-left : goal.invariant-loop-left
invariant-loop-left l = written l.words (groups_of l.left) ≡ written (pushed l.fn.words 902) (groups_of l.src)

abbrev pub decreases-loop-left : goal.decreases-loop-left
decreases-loop-left l = length l.left
