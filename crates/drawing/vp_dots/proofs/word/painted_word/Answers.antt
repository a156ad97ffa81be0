use Rattle.vp_dots.proofs.Bits.{bit_of_or, bit_of_xor}
use Rattle.vp_dots.proofs.Cuts.{bit_of_and_not64}
use Rattle.vp_dots.proofs.word.painted_word.Goals as goal

pub returns-in-Black : goal.returns-in-Black
returns-in-Black c k h = rw c.in-Black.is (bit_of_or c.args.word c.args.ink k)

pub returns-in-White : goal.returns-in-White
returns-in-White c k h = rw c.in-White.is (bit_of_and_not64 c.args.word c.args.ink k c.ranges.ink.fits h)

pub returns-in-Flip : goal.returns-in-Flip
returns-in-Flip c k h = rw c.in-Flip.is (bit_of_xor c.args.word c.args.ink k)
