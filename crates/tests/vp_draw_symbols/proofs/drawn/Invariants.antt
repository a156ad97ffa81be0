use Rattle.std.proofs.Common.{length}
use Rattle.vp_draw_symbols.proofs.drawn.Given as goal

abbrev pub decreases-loop-left : goal.decreases-loop-left
decreases-loop-left l = length l.left
