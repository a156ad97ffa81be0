use Rattle.std.proofs.Common.{arith}
use Rattle.vp_qr.proofs.ShapeLines.{finder_line_is}
use Rattle.vp_qr.proofs.shapes.finder_line.Goals as goal

pub returns : goal.returns
returns c = grind (arith, finder_line_is)
