use Rattle.std.proofs.Common.{arith}
use Rattle.vp_zpl.proofs.Fronts.{all_go_on}
use Rattle.vp_zpl.proofs.front.wide_front.Goals as goal

pub loop-at-preserved : goal.loop-at-preserved
loop-at-preserved c = grind (arith, all_go_on)
