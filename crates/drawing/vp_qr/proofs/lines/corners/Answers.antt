use Rattle.std.proofs.Common.{arith}
use Rattle.vp_qr.proofs.Modules.{either}
use Rattle.vp_qr.proofs.lines.corners.Goals as goal

pub returns : goal.returns
returns c = grind (arith, either)
