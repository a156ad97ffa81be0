use Rattle.std.proofs.Common.{arith, length-drop}
use Rattle.std.proofs.lemmas.List.{length-take, length-append}
use Rattle.vp_receipt.proofs.RasterLines.{lengthened}
use Rattle.vp_receipt.proofs.raster_page.write_row.Goals as goal

pub returns : goal.returns
returns c = grind (arith, length-take, length-append, c.fill.ensures.len, c.copy_from_slice.ensures.len, lengthened, c.min-n.ensures, c.copy_from_slice.ensures.after, length-drop)
