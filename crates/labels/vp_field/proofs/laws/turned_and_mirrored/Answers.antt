use Rattle.vp_field.proofs.Folds.{turned_and_mirrored}
use Rattle.vp_field.proofs.laws.turned_and_mirrored.Goals as goal

pub returns : goal.returns
returns c = turned_and_mirrored
