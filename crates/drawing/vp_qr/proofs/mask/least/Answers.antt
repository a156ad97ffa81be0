use Rattle.std.proofs.Common.{arith}
use Rattle.vp_qr.proofs.Choosing.{least_place_is}
use Rattle.vp_qr.proofs.mask.least.Goals as goal

pub returns-clause-place : goal.returns-clause-place
returns-clause-place c = grind (arith, least_place_is c.args.penalties.now c.loop-m.best)
