use Rattle.std.proofs.Common.{ap, sym, ◌∙◌, ◌&&◌}
use Rattle.vp_glyph.specs.Halves.{half_dot}
use Rattle.vp_glyph.proofs.Halves.{white_half}
use Rattle.vp_glyph.proofs.look.picked_half.Goals as goal

pub returns-else-dot_in_half : goal.returns-else-dot_in_half
returns-else-dot_in_half c = λ x. white_half x ∙ ap (λ b. b && half_dot c.args.mask x) (sym c.if-dot_in_half.false ∙ c.dot_in_half.ensures)
