use Rattle.vp_glyph.proofs.Halves.{half_left}
use Rattle.vp_glyph.proofs.look.left_half.Goals as goal

pub returns : goal.returns
returns c = λ x l. half_left c.args.word x l
