use Rattle.std.proofs.Common.{arith, sym, w64}
use Rattle.std.proofs.lemmas.Int.{to_z-of_z}
use Rattle.vp_glyph.proofs.Joining.{line_first}
use Rattle.vp_glyph.proofs.Overlaid.{line_fits}
use Rattle.vp_glyph.proofs.block.Block.add_rows.Goals as goal

pub returns : goal.returns
returns g c =
    let b = c.args.self.now in
    rw (sym (to_z-of_z w64 c.args.at c.ranges.at)) (record {
      added = λ s x l m. line_first b.sheet.now b.w b.h b.wide b.rows b.pitch b.alignment _ c.args.line.cells _ b.stretch.width s x _ _ _ c.requires.cells c.indent-left.ensures b.drawn (c.add_cells.ensures.added s x l m);
      most = c.add_cells.ensures.most;
    })

pub add_cells-requires-clause-fits : goal.add_cells-requires-clause-fits
add_cells-requires-clause-fits g c = omega (arith, line_fits _ _ _ _ _ _ c.args.self.now.drawn c.requires.most c.indent-left.ensures)
