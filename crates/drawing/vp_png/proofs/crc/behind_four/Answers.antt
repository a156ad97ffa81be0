use Rattle.vp_png.proofs.Crcs.{four_bits}
use Rattle.vp_png.proofs.crc.behind_four.Goals as goal

pub returns : goal.returns
returns c = four_bits c.args.c
