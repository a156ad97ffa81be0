use Rattle.vp_glyph.proofs.Looks.{dot_read}
use Rattle.vp_glyph.proofs.look.dot_in_word.Goals as goal

pub returns : goal.returns
returns c = dot_read c.args.word c.args.x c.requires
