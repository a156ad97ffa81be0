use Rattle.std.proofs.Common.{refl}
use Rattle.vp_inflate.specs.Bits.{bits}
use Rattle.vp_inflate.proofs.held.Held.new.Goals as goal

pub returns : goal.returns
unfolding bits
returns c = refl
