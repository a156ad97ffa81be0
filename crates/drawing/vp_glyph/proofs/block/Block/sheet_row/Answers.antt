use Rattle.std.proofs.Common.{arith}
use Rattle.std.proofs.lemmas.Int.{to_z-of_z}
use Rattle.vp_glyph.proofs.Sheeted.{on_white}
use Rattle.vp_glyph.proofs.block.Block.sheet_row.Goals as goal

pub returns : goal.returns
returns g c = grind (arith, to_z-of_z, on_white, c.add_sheet_row-painted.ensures.painted)
