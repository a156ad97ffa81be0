use Rattle.vp_glyph.proofs.Looks.{thick_dot}
use Rattle.vp_glyph.proofs.look.emphasized.Goals as goal

pub returns : goal.returns
returns c x h = thick_dot c.args.word x c.ranges.word.fits h
