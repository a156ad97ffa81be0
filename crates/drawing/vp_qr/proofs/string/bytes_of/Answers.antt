use Rattle.std.proofs.Common.{append_assoc, arith}
use Rattle.vp_qr.proofs.Writing.{written_all, bytes_more, bytes_none}
use Rattle.vp_qr.proofs.string.bytes_of.Goals as goal

pub loop-left-preserved : goal.loop-left-preserved
loop-left-preserved c = grind (arith, append_assoc, bytes_more)

pub returns-clause-bytes : goal.returns-clause-bytes
returns-clause-bytes c = written_all _ _ _ (bytes_none c.loop-left.left.now (omega arith)) c.loop-left.invariant.0
