use Rattle.std.proofs.Common.{arith, sym, w64}
use Rattle.std.proofs.lemmas.Int.{to_z-of_z}
use Rattle.vp_dots.specs.declared.Op.TheVariants.{Black}
use Rattle.vp_dots.proofs.Moves.{moved_same}
use Rattle.vp_glyph.proofs.Joining.{line_sheet}
use Rattle.vp_glyph.proofs.Overlaid.{line_fits}
use Rattle.vp_glyph.proofs.block.Block.add_sheet_row.Goals as goal

pub returns : goal.returns
returns g c =
    let b = c.args.self.now in
    rw (sym (to_z-of_z w64 c.args.at c.ranges.at)) (record {
      painted = moved_same Black _ _ _ _ _ (λ v. line_sheet b.sheet.now b.w b.h b.wide b.rows b.pitch b.alignment c.args.line.cells _ b.stretch.width c.args.s v _ c.requires.cells c.indent-left.ensures b.drawn) c.paint_line.ensures.painted;
      most = c.paint_line.ensures.most;
    })

pub paint_line-requires-clause-fits : goal.paint_line-requires-clause-fits
paint_line-requires-clause-fits g c = omega (arith, line_fits _ _ _ _ _ _ c.args.self.now.drawn c.requires.most c.indent-left.ensures)
