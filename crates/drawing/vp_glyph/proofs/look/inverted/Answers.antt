use Rattle.vp_glyph.proofs.Looks.{not_dot}
use Rattle.vp_glyph.proofs.look.inverted.Goals as goal

pub returns : goal.returns
returns c x h = not_dot c.args.word x c.ranges.word.fits h
