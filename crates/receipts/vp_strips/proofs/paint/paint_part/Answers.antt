use Rattle.std.proofs.Common.{arith}
use Rattle.vp_strips.proofs.paint.paint_part.Goals as goal

pub returns : goal.returns
returns g c = grind (arith, c.paint_lines.ensures, c.widened_rows-wide.ensures)
