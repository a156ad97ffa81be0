use Rattle.vp_png.proofs.LowBits.{nothing_in}
use Rattle.vp_png.proofs.bits.Bits.new.Goals as goal

pub returns : goal.returns
returns c = simp c.new.ensures nothing_in
