use Rattle.std.proofs.Common.{arith}
use Rattle.vp_requests.proofs.Rows.{row_ends}
use Rattle.vp_requests.proofs.real_time.row_part.Goals as goal

pub returns-then-i-args : goal.returns-then-i-args
returns-then-i-args c = grind (arith, row_ends)
