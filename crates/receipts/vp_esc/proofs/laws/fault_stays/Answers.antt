use Rattle.vp_esc.proofs.Faults.{fault_stays_lem}
use Rattle.vp_esc.proofs.laws.fault_stays.Goals as goal

pub returns : goal.returns
returns c = fault_stays_lem
