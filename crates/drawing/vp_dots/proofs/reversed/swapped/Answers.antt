use Rattle.vp_dots.proofs.Swaps.{swap_bits}
use Rattle.vp_dots.proofs.reversed.swapped.Goals as goal

pub returns : goal.returns
returns c i h = swap_bits c.args.word c.args.s c.args.mask i h (c.requires.apart i h)
