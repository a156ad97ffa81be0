use Rattle.std.proofs.Common.{refl}
use Rattle.vp_png.specs.Zlib.{sums_after}
use Rattle.vp_png.proofs.sums.Sums.new.Goals as goal

pub returns : goal.returns
unfolding sums_after
returns c = record { first = refl; second = refl }
