use Rattle.std.proofs.Common.{length}
use Rattle.vp_read_codes.proofs.told.Given as goal

abbrev pub decreases-loop-left : goal.decreases-loop-left
decreases-loop-left l = length l.left
