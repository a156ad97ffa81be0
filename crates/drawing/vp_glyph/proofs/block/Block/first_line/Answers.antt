use Rattle.std.proofs.Common.{arith}
use Rattle.vp_glyph.proofs.Stacks.{lines_from}
use Rattle.vp_glyph.proofs.block.Block.first_line.Goals as goal

pub returns-then-y-saturating_sub-clause-lines : goal.returns-then-y-saturating_sub-clause-lines
returns-then-y-saturating_sub-clause-lines g c = grind (arith, lines_from)
