use Rattle.std.proofs.Common.{arith}
use Rattle.vp_format.proofs.Marks.{marked_start}
use Rattle.vp_format.proofs.PassedRows.{rest_most}
use Rattle.vp_format.proofs.rows.RunRows.passed.Goals as goal

pub returns-clause-bytes : goal.returns-clause-bytes
returns-clause-bytes c = grind (arith, rest_most, marked_start)
