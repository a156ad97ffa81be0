use Rattle.std.proofs.Common.{arith}
use Rattle.vp_qr.proofs.InkLines.{ink_alike}
use Rattle.vp_qr.proofs.ink.QrInkInk.alike.Goals as goal

pub returns-clause-same : goal.returns-clause-same
returns-clause-same c = grind (arith, ink_alike)
