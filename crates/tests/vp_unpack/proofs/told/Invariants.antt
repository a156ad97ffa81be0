use Rattle.std.proofs.Common.{length}
use Rattle.vp_unpack.proofs.told.Given as goal

abbrev pub decreases-loop-left : goal.decreases-loop-left
decreases-loop-left l = length l.left
