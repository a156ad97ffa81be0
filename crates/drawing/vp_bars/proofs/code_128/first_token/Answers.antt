use Rattle.std.proofs.Common.{arith}
use Rattle.std.proofs.lemmas.Grind.{common_steps}
use Rattle.vp_bars.proofs.code_128.first_token.Goals as goal

pub returns-then-b-lead-clause-token : goal.returns-then-b-lead-clause-token
returns-then-b-lead-clause-token c = grind (arith, common_steps)

pub returns-clause-token : goal.returns-clause-token
returns-clause-token c = grind (arith, common_steps)
