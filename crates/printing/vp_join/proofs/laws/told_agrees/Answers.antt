use Rattle.vp_join.proofs.Agree.{told_offence, offence_told}
use Rattle.vp_join.proofs.JoinedLaws.{joined_told, told_joined}
use Rattle.vp_join.proofs.laws.told_agrees.Goals as goal

pub returns : goal.returns
returns c = record { joined = joined_told; images = told_joined; refused = told_offence; offence = offence_told }
