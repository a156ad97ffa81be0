use Rattle.vp_engine.specs.Setups.{rules_of}
use Rattle.vp_engine.proofs.Faults.{fault_stays, paper_stays}
use Rattle.vp_engine.proofs.laws.nothing_follows_a_fault.Goals as goal

pub returns-clause-fault : goal.returns-clause-fault
returns-clause-fault c setup bytes more f e = fault_stays (rules_of setup) bytes more f e

pub returns-clause-paper : goal.returns-clause-paper
returns-clause-paper c setup bytes more f e = paper_stays (rules_of setup) bytes more f e
