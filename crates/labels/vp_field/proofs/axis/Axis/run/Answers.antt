use Rattle.std.proofs.Common.{arith}
use Rattle.vp_field.proofs.Alike.{run_forward, run_back}
use Rattle.vp_field.proofs.axis.Axis.run.Goals as goal

pub returns-in-Forward-clause-alike : goal.returns-in-Forward-clause-alike
returns-in-Forward-clause-alike c = grind (arith, run_forward)

pub returns-in-Back-clause-alike : goal.returns-in-Back-clause-alike
returns-in-Back-clause-alike c = grind (arith, run_back)
