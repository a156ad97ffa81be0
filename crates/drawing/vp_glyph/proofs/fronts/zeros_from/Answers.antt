use Rattle.vp_glyph.proofs.Gathered.{bits_from}
use Rattle.vp_glyph.proofs.fronts.zeros_from.Goals as goal

pub returns-clause-zeros : goal.returns-clause-zeros
returns-clause-zeros c = λ r l m. bits_from c.args.bits c.args.s r c.ranges.bits.fits l m
