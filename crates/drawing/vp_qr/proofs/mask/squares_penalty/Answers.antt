use Rattle.std.proofs.Common.{arith}
use Rattle.vp_qr.specs.Walk.{dark}
use Rattle.vp_qr.proofs.mask.squares_penalty.Goals as goal

pub loop-i-preserved : goal.loop-i-preserved
unfolding dark
loop-i-preserved c = grind arith
