use Rattle.vp_esc.specs.Reader.{Stands}
use Rattle.std.proofs.Common.{refl}
use Rattle.vp_esc.specs.Units.{given, fault_in}
use Rattle.vp_esc.specs.Split.{split, split_on, items, fault_of}
use Rattle.vp_esc.proofs.reader.EscReader.new.Goals as goal

pub returns-clause-stands : goal.returns-clause-stands
unfolding split split_on Stands
returns-clause-stands c = (refl, refl)

pub returns-clause-nothing : goal.returns-clause-nothing
unfolding items split split_on given
returns-clause-nothing c = refl

pub returns-clause-no_fault : goal.returns-clause-no_fault
unfolding fault_of split split_on fault_in
returns-clause-no_fault c = refl
