use Rattle.std.proofs.Common.{arith}
use Rattle.vp_glyph.proofs.stretch.Stretch.twice.Goals as goal

pub returns : goal.returns
returns c x = grind arith
