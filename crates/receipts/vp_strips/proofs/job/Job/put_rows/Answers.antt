use Rattle.std.proofs.Common.{arith}
use Rattle.std.proofs.lemmas.Nat.{mul-le}
use Rattle.std.proofs.Math.Nat.{mul-le-mul_right}
use Rattle.vp_receipt_settings.proofs.Widths.{some_bytes}
use Rattle.vp_strips.proofs.ManyRows.{first_rows, length-rows, some_rows, rows_left, left_behind}
use Rattle.vp_strips.proofs.job.Job.put_rows.Goals as goal

pub returns-clause-some : goal.returns-clause-some
returns-clause-some g c = grind (arith, mul-le, some_rows, some_bytes)

pub returns-clause-within : goal.returns-clause-within
returns-clause-within g c = grind (arith, rows_left, length-rows, mul-le-mul_right)

pub returns-clause-bytes : goal.returns-clause-bytes
returns-clause-bytes g c = grind (arith, rows_left, first_rows)

pub returns-clause-rest : goal.returns-clause-rest
returns-clause-rest g c = grind (arith, rows_left, left_behind, some_rows)
