use Rattle.std.proofs.Common.{arith}
use Rattle.vp_field.proofs.Turns.{laid_by}
use Rattle.vp_field.proofs.laid.Laid.viewed.Goals as goal

pub returns-clause-ink : goal.returns-clause-ink
returns-clause-ink c = grind (arith, laid_by)
