use Rattle.std.proofs.Common.{◌≡◌, length}
use Rattle.vp_pdf417.specs.Messages.{all_segments}
use Rattle.vp_pdf417.specs.Written.{written}
use Rattle.vp_pdf417.proofs.message.push_segments.Given as goal

abbrev pub invariant-loop-left : goal.invariant-loop-left
invariant-loop-left l = written l.words (all_segments l.left) ≡ written l.fn.words (all_segments l.src)

abbrev pub decreases-loop-left : goal.decreases-loop-left
decreases-loop-left l = length l.left
