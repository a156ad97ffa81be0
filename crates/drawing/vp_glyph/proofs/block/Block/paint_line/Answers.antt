use Rattle.std.proofs.Common.{arith}
use Rattle.vp_glyph.proofs.Overlaid.{above_none, line_fits}
use Rattle.vp_glyph.proofs.block.Block.paint_line.Goals as goal

pub returns-then-y-top : goal.returns-then-y-top
returns-then-y-top g c = record {
  painted = above_none _ _ _ _ c.args.self.now.rows _ _ _ _ _ c.args.place _ _ (omega arith);
  most = omega arith;
}

pub paint_line-requires-clause-fits : goal.paint_line-requires-clause-fits
paint_line-requires-clause-fits g c = omega (arith, line_fits _ _ _ _ _ _ c.args.self.now.drawn c.requires.most c.indent-left.ensures)
