use Rattle.vp_field.proofs.Folds.{dots_move}
use Rattle.vp_field.proofs.laws.dots_move.Goals as goal

pub returns : goal.returns
returns c = dots_move
