use Rattle.std.proofs.Common.{arith, false, refl}
use Rattle.vp_strips.specs.declared.strip.Dots.TheVariants.{White}
use Rattle.vp_strips.proofs.Strips.{whole_is}
use Rattle.vp_strips.proofs.strip.Strip.white.Goals as goal

pub returns-clause-text : goal.returns-clause-text
returns-clause-text c = λ canvas some. whole_is (record { paper = c.args.paper; tall = c.args.rows; rows = c.args.rows; dots = White }) canvas (λ x y. false) refl (λ e. absurd (omega arith)) (λ x y h. refl)
