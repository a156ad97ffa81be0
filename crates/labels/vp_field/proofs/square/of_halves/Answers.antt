use Rattle.std.proofs.Common.{◌∙◌, ap, arith}
use Rattle.vp_glyph.specs.Halves.{half_dot}
use Rattle.vp_field.proofs.Columns.{left_half, right_half}
use Rattle.vp_field.proofs.square.of_halves.Goals as goal

pub returns-clause-left : goal.returns-clause-left
returns-clause-left c = λ x l. left_half c.from.result c.from-2.result x l (omega (arith, c.from-2.ensures, c.ranges.right.fits)) ∙ ap (λ n. half_dot n x) c.from.ensures

pub returns-clause-right : goal.returns-clause-right
returns-clause-right c = λ x l. right_half c.from.result c.from-2.result x l ∙ ap (λ n. half_dot n x) c.from-2.ensures
