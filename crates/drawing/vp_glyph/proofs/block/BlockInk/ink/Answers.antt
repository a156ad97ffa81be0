use Rattle.std.proofs.Common.{arith}
use Rattle.vp_glyph.proofs.Stacks.{front_found, block_past, block_below, block_narrow, block_within}
use Rattle.vp_glyph.proofs.block.BlockInk.ink.Goals as goal
use Rattle.vp_glyph.proofs.block.BlockInk.ink.Goals.{then-x-width-via-then-x-width, then-x-width-via-else-x-width+then-y-height, then-x-width-via-else-x-width+else-y-height+then-self}

pub returns-then-x-width : goal.returns-then-x-width
returns-then-x-width g c = grind (arith, block_past, block_below, block_narrow)

pub returns-then-dot_of_line : goal.returns-then-dot_of_line
returns-then-dot_of_line g c = grind (arith, front_found, block_within, c.in-Some.is, c.next_line.ensures.text, c.dot_of_line.ensures)

pub returns : goal.returns
returns g c = grind (arith, block_within)
