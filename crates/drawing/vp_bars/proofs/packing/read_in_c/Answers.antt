use Rattle.std.proofs.Common.{arith}
use Rattle.vp_bars.proofs.Packed.{packed_pair, packed_change}
use Rattle.vp_bars.proofs.packing.read_in_c.Goals as goal

pub returns-then-begins_pair-clause-value : goal.returns-then-begins_pair-clause-value
returns-then-begins_pair-clause-value c = grind (arith, packed_pair)

pub returns-clause-value : goal.returns-clause-value
returns-clause-value c = grind (arith, packed_change)
