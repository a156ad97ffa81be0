use Rattle.std.proofs.Common.{arith, sym, w64}
use Rattle.std.proofs.lemmas.Int.{to_z-of_z}
use Rattle.vp_glyph.proofs.Handed.{seen_some, lines_fit}
use Rattle.vp_glyph.proofs.Stacks.{row_below, row_narrow, block_below, block_narrow}
use Rattle.vp_glyph.proofs.block.Block.paint_pieces.Goals as goal

pub returns-then-y-height : goal.returns-then-y-height
returns-then-y-height g c = grind (arith, row_below, seen_some, block_below)

pub returns-then-self : goal.returns-then-self
returns-then-self g c = grind (arith, row_narrow, seen_some, block_narrow)

pub returns-in-Flip : goal.returns-in-Flip
returns-in-Flip g c = rw (sym (to_z-of_z w64 c.args.at c.ranges.at)) (record {
  painted = rw c.in-Flip.is c.flip_lines.ensures.painted;
  most = omega (arith, c.flip_lines.ensures.most, lines_fit c.args.self.now.text.now);
  some = c.flip_lines.ensures.some;
})

pub returns-in_default : goal.returns-in_default
returns-in_default g c = rw (sym (to_z-of_z w64 c.args.at c.ranges.at)) (record {
  painted = c.paint_lines.ensures.painted;
  most = omega (arith, c.paint_lines.ensures.most, lines_fit c.args.self.now.text.now);
  some = c.paint_lines.ensures.some;
})
