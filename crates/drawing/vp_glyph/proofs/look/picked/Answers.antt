use Rattle.std.proofs.Common.{ap, sym, ◌∙◌, ◌&&◌}
use Rattle.vp_dots.specs.Words.{word_dot}
use Rattle.vp_glyph.proofs.Looks.{white_dot}
use Rattle.vp_glyph.proofs.look.picked.Goals as goal

pub returns-else-dot_in_word : goal.returns-else-dot_in_word
returns-else-dot_in_word c x = white_dot x ∙ ap (λ b. b && word_dot c.args.mask x) (sym c.if-dot_in_word.false ∙ c.dot_in_word.ensures)
