use Rattle.std.proofs.Common.{sym, w64}
use Rattle.std.proofs.lemmas.Int.{to_z-of_z}
use Rattle.vp_glyph.proofs.Drawn.{sampled_below, sampled_drawn}
use Rattle.vp_glyph.proofs.sampled.Sampled.paint_from.Goals as goal

pub returns-then-y-self : goal.returns-then-y-self
returns-then-y-self g c = sampled_below _ _ _ _ _ _ _ _ _ c.if-y-self.true

pub returns : goal.returns
returns g c = rw (sym (to_z-of_z w64 c.args.at c.ranges.at))
    (sampled_drawn _ _ _ _ _ _ _ _ c.row_at-word.result c.if-y-self.false (λ x. rw (c.row_at-word.ensures, c.sampled_place-place.ensures) (c.rows_in.ensures x _)) _ _ c.paint_scaled.ensures)
