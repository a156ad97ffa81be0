use Rattle.std.proofs.Common.{arith}
use Rattle.vp_receipt.proofs.raster_page.write_line.Goals as goal

pub returns-then-times_across-eq1 : goal.returns-then-times_across-eq1
returns-then-times_across-eq1 c = grind (arith, c.times_across.ensures.value, c.if-times_across-eq1.true, c.write_row.ensures)

pub returns-else-times_across-eq1 : goal.returns-else-times_across-eq1
returns-else-times_across-eq1 c = grind (arith, c.times_across.ensures.value, c.times_across.ensures.some, c.times_across.ensures.few, c.if-times_across-eq1.false, c.doubled.ensures)
