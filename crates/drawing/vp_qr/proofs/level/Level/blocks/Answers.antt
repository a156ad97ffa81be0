use Rattle.std.proofs.Common.{arith}
use Rattle.vp_qr.specs.Blocks.{blocks_of}
use Rattle.vp_qr.proofs.BlockTable.{codewords_add, sound}
use Rattle.vp_qr.proofs.level.Level.blocks.Goals as goal

pub returns-clause-sound : goal.returns-clause-sound
unfolding blocks_of
returns-clause-sound c = grind (arith, sound)

pub returns-clause-adds_up : goal.returns-clause-adds_up
unfolding blocks_of
returns-clause-adds_up c = grind (arith, codewords_add)
