use Rattle.std.proofs.Common.{arith}
use Rattle.vp_qr.proofs.Counting.{dark_in_row}
use Rattle.vp_qr.proofs.mask.dark_modules.Goals as goal

pub loop-i-preserved : goal.loop-i-preserved
loop-i-preserved c = grind (arith, dark_in_row)
