use Rattle.std.proofs.Common.{arith}
use Rattle.vp_qr.specs.Penalty.{penalty}
use Rattle.vp_qr.proofs.mask.penalty.Goals as goal

pub returns : goal.returns
unfolding penalty
returns c = grind arith
