use Rattle.vp_maxicode.proofs.SetTable.{has_home}
use Rattle.vp_maxicode.proofs.set.sets_law.Goals as goal

pub returns : goal.returns
returns c = has_home
