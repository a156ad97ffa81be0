use Rattle.std.proofs.Common.{sym, ◌∙◌, arith}
use Rattle.std.proofs.lemmas.Bool.{true≢false}
use Rattle.vp_field.proofs.pen.Pen.draw_on.Goals as goal

pub returns-in_default-clause-dots : goal.returns-in_default-clause-dots
returns-in_default-clause-dots g c = grind arith

pub returns-in_default-clause-some : goal.returns-in_default-clause-some
returns-in_default-clause-some g c = λ p h e. absurd (true≢false (sym e ∙ c.requires.white p h))
