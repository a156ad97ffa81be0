use Rattle.vp_join.proofs.JoinedLaws.{decided, not_both, one_offence, same_pbm}
use Rattle.vp_join.proofs.laws.each_text_is_decided.Goals as goal

pub returns : goal.returns
returns c = record { one = decided; images = not_both; offence = one_offence; image = same_pbm }
