use Rattle.vp_glyph.proofs.Magnified.{spread_dot}
use Rattle.vp_glyph.proofs.look.spread.Goals as goal

pub returns : goal.returns
returns c x h = spread_dot c.args.word c.args.far c.args.mask x c.ranges.word.fits h
