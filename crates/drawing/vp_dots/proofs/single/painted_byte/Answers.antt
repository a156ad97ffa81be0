use Rattle.vp_dots.proofs.Bits.{bit_of_or, bit_of_and_not, bit_of_xor}
use Rattle.vp_dots.proofs.single.painted_byte.Goals as goal

pub returns-in-Black : goal.returns-in-Black
returns-in-Black c k h = rw c.in-Black.is (bit_of_or c.args.byte c.args.mask k)

pub returns-in-White : goal.returns-in-White
returns-in-White c k h = rw c.in-White.is (bit_of_and_not c.args.byte c.args.mask k c.ranges.mask.fits h)

pub returns-in-Flip : goal.returns-in-Flip
returns-in-Flip c k h = rw c.in-Flip.is (bit_of_xor c.args.byte c.args.mask k)
