use Rattle.std.proofs.Common.{arith}
use Rattle.vp_glyph.proofs.Printed.{printed_plain, printed_below}
use Rattle.vp_glyph.proofs.cell.Cell.plain_row.Goals as goal

pub returns-then-y-height : goal.returns-then-y-height
returns-then-y-height g c = grind (arith, printed_below, c.requires)

pub returns : goal.returns
returns g c = grind (arith, printed_plain, c.requires, c.if-y-height.false)
