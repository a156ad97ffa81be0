use Rattle.std.proofs.Common.{arith}
use Rattle.vp_engine.proofs.Cuts.{range_less, length_range}
use Rattle.vp_engine.proofs.buffer.Buffer.consume.Goals as goal

pub returns : goal.returns
returns c = grind (arith, length_range, range_less)
