use Rattle.std.proofs.Common.{arith}
use Rattle.vp_qr.proofs.Remainders.{remainder_more, remainder_done}
use Rattle.vp_qr.proofs.code.remainder.Goals as goal

pub loop-k-preserved : goal.loop-k-preserved
loop-k-preserved c = grind (arith, remainder_more)

pub returns-clause-value : goal.returns-clause-value
returns-clause-value c = grind (arith, remainder_done)
