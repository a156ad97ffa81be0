use Rattle.vp_aztec.proofs.AlongWords.{have_bits}
use Rattle.vp_aztec.proofs.place.bits_law.Goals as goal

pub returns : goal.returns
returns c = have_bits c.args.size
