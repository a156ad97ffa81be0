use Rattle.std.proofs.Common.{refl}
use Rattle.vp_requests.proofs.RealTimes.{stand_first}
use Rattle.vp_requests.proofs.arrivals.Arrivals.new.Goals as goal

pub returns-clause-stands : goal.returns-clause-stands
returns-clause-stands c = stand_first _ c.new.ensures refl refl
