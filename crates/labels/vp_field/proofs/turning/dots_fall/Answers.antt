use Rattle.vp_field.proofs.Turns.{dots_fall}
use Rattle.vp_field.proofs.turning.dots_fall.Goals as goal

pub returns : goal.returns
returns c = dots_fall
