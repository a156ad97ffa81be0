use Rattle.std.proofs.Common.{arith}
use Rattle.vp_qr.proofs.ink.paint_line.Goals as goal

pub returns : goal.returns
returns c = grind arith
