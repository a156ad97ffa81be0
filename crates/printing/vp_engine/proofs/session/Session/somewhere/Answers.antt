use Rattle.std.proofs.Common.{subst}
use Rattle.vp_engine.specs.Session.{IsSomewhere}
use Rattle.vp_engine.proofs.session.Session.somewhere.Goals as goal

pub returns : goal.returns
returns g c = subst IsSomewhere c.self.view_is c.self.invariant
