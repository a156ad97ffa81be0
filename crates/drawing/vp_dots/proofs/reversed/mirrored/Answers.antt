use Rattle.std.proofs.Common.{arith}
use Rattle.vp_dots.proofs.EndForEnd.{bit_exchanged}
use Rattle.vp_dots.proofs.reversed.mirrored.Goals as goal

pub returns : goal.returns
returns c k h = bit_exchanged c.args.byte k (omega (arith, c.ranges.byte.fits)) h
