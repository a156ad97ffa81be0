use Rattle.std.proofs.Common.{arith}
use Rattle.vp_qr.proofs.Counting.{sum_same}
use Rattle.vp_qr.proofs.mask.row_squares.Goals as goal

pub returns-clause-value : goal.returns-clause-value
returns-clause-value c = grind (arith, sum_same)
