use Rattle.vp_join.proofs.JoinedLaws.{only_calls}
use Rattle.vp_join.proofs.laws.images_are_not_refused.Goals as goal

pub returns : goal.returns
returns c = only_calls
