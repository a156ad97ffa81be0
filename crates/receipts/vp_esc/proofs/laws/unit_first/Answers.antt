use Rattle.vp_esc.proofs.Divisions.{unit_first_lem}
use Rattle.vp_esc.proofs.laws.unit_first.Goals as goal

pub returns : goal.returns
returns c reading unit bytes u = unit_first_lem reading unit bytes u
