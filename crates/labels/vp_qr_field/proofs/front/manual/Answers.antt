use Rattle.std.proofs.Common.{arith}
use Rattle.std.proofs.lemmas.Grind.{common_steps}
use Rattle.vp_qr_field.proofs.front.manual.Goals as goal

pub returns-in-66-clause-value : goal.returns-in-66-clause-value
returns-in-66-clause-value c = grind (arith, common_steps)
