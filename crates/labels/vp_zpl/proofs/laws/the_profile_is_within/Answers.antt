use Rattle.vp_zpl.proofs.Within.{cut_alike, items_alike}
use Rattle.vp_zpl.proofs.laws.the_profile_is_within.Goals as goal

pub returns-clause-cut : goal.returns-clause-cut
returns-clause-cut c bytes = cut_alike bytes

pub returns-clause-items : goal.returns-clause-items
returns-clause-items c bytes = items_alike bytes
