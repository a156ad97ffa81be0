use Rattle.std.proofs.Common.{arith}
use Rattle.vp_glyph.proofs.Looks.{white_dot}
use Rattle.vp_glyph.proofs.stretch.mask.Goals as goal

pub returns-then-to-from : goal.returns-then-to-from
returns-then-to-from c = grind (arith, white_dot)
