use Rattle.vp_esc.proofs.Within.{no_fault, units_lem, items_lem}
use Rattle.vp_esc.proofs.laws.the_profile_is_within.Goals as goal

pub returns-clause-no_fault : goal.returns-clause-no_fault
returns-clause-no_fault c = no_fault

pub returns-clause-units : goal.returns-clause-units
returns-clause-units c = units_lem

pub returns-clause-items : goal.returns-clause-items
returns-clause-items c = items_lem
