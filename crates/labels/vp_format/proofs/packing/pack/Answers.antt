use Rattle.std.proofs.Common.{arith}
use Rattle.vp_format.proofs.Nibbles.{nibble_of_pair}
use Rattle.vp_format.proofs.packing.pack.Goals as goal

pub returns-clause-packed : goal.returns-clause-packed
returns-clause-packed c small j l = grind (arith, nibble_of_pair)
