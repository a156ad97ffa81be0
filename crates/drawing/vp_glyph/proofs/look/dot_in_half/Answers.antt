use Rattle.vp_glyph.proofs.Halves.{half_read}
use Rattle.vp_glyph.proofs.look.dot_in_half.Goals as goal

pub returns : goal.returns
returns c = half_read c.args.half c.args.x c.requires
