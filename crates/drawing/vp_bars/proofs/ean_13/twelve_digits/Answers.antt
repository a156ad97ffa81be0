use Rattle.std.proofs.Common.{refl}
use Rattle.vp_bars.proofs.Digits.{twelve_done}
use Rattle.vp_bars.proofs.ean_13.twelve_digits.Goals as goal

pub returns : goal.returns
returns c = twelve_done c.args.src.now _ c.loop-c.digits.items c.min.result c.loop-c.c-index c.min.ensures refl c.loop-c-test.false c.loop-c.invariant
