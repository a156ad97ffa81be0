use Rattle.vp_page.proofs.Falling.{dots_fall}
use Rattle.vp_page.proofs.laws.dots_fall.Goals as goal

pub returns : goal.returns
returns c = dots_fall
