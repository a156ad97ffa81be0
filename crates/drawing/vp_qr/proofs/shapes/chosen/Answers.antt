use Rattle.std.proofs.Common.{arith}
use Rattle.vp_qr.proofs.Modules.{both, either, other}
use Rattle.vp_qr.proofs.shapes.chosen.Goals as goal

pub returns : goal.returns
returns c = grind (arith, both, either, other)
