use Rattle.std.proofs.Common.{[], arith}
use Rattle.vp_engine.proofs.session.Session.over.Goals as goal

pub invariant_of-result : goal.invariant_of-result
invariant_of-result g c = (c.requires.0, [], [], grind arith)

pub returns : goal.returns
returns g c = λ setup s. grind arith
