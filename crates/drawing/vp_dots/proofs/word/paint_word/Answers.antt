use Rattle.std.proofs.Common.{◌∙◌, ap, sym, w64}
use Rattle.std.proofs.lemmas.Int.{to_z-of_z}
use Rattle.vp_dots.specs.Dots.{dot}
use Rattle.vp_dots.proofs.Paints.{painted_same}
use Rattle.vp_dots.proofs.Shifts.{shifted_same}
use Rattle.vp_dots.proofs.Words.{word_row}
use Rattle.vp_dots.proofs.word.paint_word.Goals as goal

pub returns-else-at-ge0 : goal.returns-else-at-ge0
returns-else-at-ge0 c = rw (sym (to_z-of_z w64 c.args.at c.ranges.at)) (painted_same _ _ _ _ _ (λ d l. shifted_same _ _ _ d (λ x e. ap (λ b. dot b x) c.to_be_bytes.ensures ∙ word_row c.args.word x)) c.paint_into.ensures)
