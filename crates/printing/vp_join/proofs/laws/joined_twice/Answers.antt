use Rattle.vp_join.proofs.JoinedLaws.{twice}
use Rattle.vp_join.proofs.laws.joined_twice.Goals as goal

pub returns : goal.returns
returns c = twice
