use Rattle.std.proofs.Common.{arith}
use Rattle.vp_zpl.proofs.Fronts.{stops, goes_on}
use Rattle.vp_zpl.proofs.front.code_front.Goals as goal

pub returns-then-count-lt-LANES : goal.returns-then-count-lt-LANES
returns-then-count-lt-LANES c = grind (arith, stops)

pub loop-at-preserved : goal.loop-at-preserved
loop-at-preserved c = grind (arith, goes_on)
