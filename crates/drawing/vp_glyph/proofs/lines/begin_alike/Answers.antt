use Rattle.std.proofs.Common.{arith}
use Rattle.vp_glyph.proofs.Pieces.{same_front}
use Rattle.vp_glyph.proofs.lines.begin_alike.Goals as goal

pub returns : goal.returns
returns c = grind (arith, same_front)
