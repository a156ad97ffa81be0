use Rattle.std.proofs.Common.{arith}
use Rattle.vp_qr.specs.Walk.{dark}
use Rattle.vp_qr.proofs.Modules.{both, other}
use Rattle.vp_qr.proofs.mask.lights.Goals as goal

pub returns : goal.returns
unfolding dark
returns c = grind (arith, both, other)
