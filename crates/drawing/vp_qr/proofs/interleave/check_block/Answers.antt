use Rattle.std.proofs.Common.{arith}
use Rattle.vp_qr.proofs.Interleaving.{part_is}
use Rattle.vp_qr.proofs.interleave.check_block.Goals as goal

pub returns-clause-check : goal.returns-clause-check
returns-clause-check c = grind (arith, part_is)
