use Rattle.std.proofs.Common.{sym, w64, ◌∙◌}
use Rattle.std.proofs.lemmas.Int.{to_z-of_z}
use Rattle.vp_dots.specs.declared.Op.TheVariants.{Black}
use Rattle.vp_glyph.proofs.Drawn.{sampled_front}
use Rattle.vp_glyph.proofs.sampled.cell_front.Goals as goal

pub returns : goal.returns
returns g c = λ h y l e d m.
    rw (sym (to_z-of_z w64 c.args.at c.ranges.at))
    (c.front.ensures d m ∙ sampled_front Black _ _ _ c.args.stretch.now.width h _ y c.row_at-word.result l (λ x. rw (c.row_at-word.ensures, e) (c.rows_in.ensures x _)) d)
