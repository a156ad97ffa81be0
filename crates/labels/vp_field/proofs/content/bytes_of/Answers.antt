use Rattle.std.proofs.Common.{arith}
use Rattle.vp_field.proofs.content.bytes_of.Goals as goal

pub returns : goal.returns
returns c = grind arith
