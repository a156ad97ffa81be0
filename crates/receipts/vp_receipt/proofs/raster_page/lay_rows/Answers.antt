use Rattle.std.proofs.Common.{arith}
use Rattle.vp_receipt.proofs.raster_page.lay_rows.Goals as goal

pub returns-in-Normal : goal.returns-in-Normal
returns-in-Normal g c = λ layers page. grind (arith, c.lay_rows.ensures layers page)

pub returns-in_default : goal.returns-in_default
returns-in_default g c = c.lay_many.ensures
