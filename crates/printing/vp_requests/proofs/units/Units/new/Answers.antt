use Rattle.std.proofs.Common.{refl}
use Rattle.vp_requests.proofs.UnitEnds.{stand_first}
use Rattle.vp_requests.proofs.units.Units.new.Goals as goal

pub returns-clause-stands : goal.returns-clause-stands
returns-clause-stands c = stand_first _ c.new.ensures.stands c.new-2.ensures refl refl
