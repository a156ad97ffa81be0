use Rattle.std.proofs.Common.{refl, arith}
use Rattle.vp_strips.specs.Rows.{cut_dot}
use Rattle.vp_strips.specs.declared.strip.Dots.TheVariants.{Across}
use Rattle.vp_strips.proofs.Strips.{whole_is}
use Rattle.vp_strips.proofs.strip.Strip.cut.Goals as goal

pub returns-clause-text : goal.returns-clause-text
returns-clause-text c = λ canvas. whole_is (record { paper = c.args.paper; tall = 1; rows = 1; dots = Across c.args.cut }) canvas (λ x y. cut_dot c.args.cut x) refl (λ e. absurd (omega arith)) (λ x y h. refl)
