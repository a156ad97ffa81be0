use Rattle.vp_esc.proofs.Faults.{no_row}
use Rattle.vp_esc.proofs.laws.no_unit_is_possible.Goals as goal

pub returns : goal.returns
returns c = no_row
