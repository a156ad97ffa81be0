use Rattle.std.proofs.Common.{sym, w64}
use Rattle.std.proofs.lemmas.Int.{to_z-of_z}
use Rattle.vp_glyph.proofs.Drawn.{sampled_drawn}
use Rattle.vp_glyph.proofs.sampled.paint_cell.Goals as goal

pub returns : goal.returns
returns g c = λ h y l e.
    rw (sym (to_z-of_z w64 c.args.at c.ranges.at))
    (sampled_drawn _ _ _ _ c.args.stretch.now.width h _ y c.row_at-word.result l (λ x. rw (c.row_at-word.ensures, e) (c.rows_in.ensures x _)) _ _ c.paint.ensures)
