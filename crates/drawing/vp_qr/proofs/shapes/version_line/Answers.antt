use Rattle.std.proofs.Common.{arith}
use Rattle.vp_qr.proofs.ShapeLines.{version_above, version_beside}
use Rattle.vp_qr.proofs.shapes.version_line.Goals as goal

pub returns-then-row-lt6 : goal.returns-then-row-lt6
returns-then-row-lt6 c = grind (arith, version_above)

pub returns : goal.returns
returns c = grind (arith, version_beside)
