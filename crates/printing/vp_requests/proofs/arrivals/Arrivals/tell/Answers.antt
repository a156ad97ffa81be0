use Rattle.std.proofs.Common.{refl, arith}
use Rattle.vp_requests.proofs.RealTimes.{told}
use Rattle.vp_requests.proofs.arrivals.Arrivals.tell.Goals as goal

pub returns-clause-stands : goal.returns-clause-stands
returns-clause-stands c = λ bytes s e. told c.args.self.now _ bytes s (grind (arith, c.if-not-self.false)) c.clear.ensures refl e
