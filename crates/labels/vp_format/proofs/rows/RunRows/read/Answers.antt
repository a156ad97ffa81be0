use Rattle.std.proofs.Common.{arith}
use Rattle.vp_format.proofs.Marks.{marked_start}
use Rattle.vp_format.proofs.rows.RunRows.read.Goals as goal

pub returns-clause-at_least : goal.returns-clause-at_least
returns-clause-at_least c = grind (arith, marked_start)
