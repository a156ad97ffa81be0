use Rattle.vp_dots.proofs.Shifts.{shifted_meets, shifted_outside}
use Rattle.vp_dots.proofs.kernel.shift_law.Goals as goal

pub returns : goal.returns
returns c = record { meets = shifted_meets; outside = shifted_outside }
