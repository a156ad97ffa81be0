use Rattle.std.proofs.Common.{arith}
use Rattle.vp_glyph.proofs.Counted.{block_above}
use Rattle.vp_glyph.proofs.block.Block.row_below_lines.Goals as goal

pub returns : goal.returns
returns g c = grind (arith, block_above, c.saturating_add.ensures)
