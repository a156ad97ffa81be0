use Rattle.std.proofs.Common.{arith}
use Rattle.vp_qr.specs.Walk.{dark}
use Rattle.vp_qr.proofs.Modules.{both, equal}
use Rattle.vp_qr.proofs.mask.fives.Goals as goal

pub returns : goal.returns
unfolding dark
returns c = grind (arith, both, equal)
