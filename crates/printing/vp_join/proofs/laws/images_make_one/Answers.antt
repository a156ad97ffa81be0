use Rattle.vp_join.proofs.Together.{together}
use Rattle.vp_join.proofs.laws.images_make_one.Goals as goal

pub returns : goal.returns
returns c = λ width images fits are most. together width fits images are most
