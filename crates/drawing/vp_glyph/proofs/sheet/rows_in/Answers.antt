use Rattle.std.proofs.Common.{refl, ◌∙◌}
use Rattle.vp_glyph.proofs.Looks.{white_dot}
use Rattle.vp_glyph.proofs.sheet.rows_in.Goals as goal

pub returns-in-None : goal.returns-in-None
returns-in-None g c = λ x y. white_dot x ∙ rw (c.in-None.is) refl
