use Rattle.std.proofs.Common.{arith}
use Rattle.vp_bars.proofs.Regular.{regular_one}
use Rattle.vp_bars.proofs.strokes.Strokes.character_width.Goals as goal

pub returns-then-is_regular : goal.returns-then-is_regular
returns-then-is_regular c = grind (arith, regular_one)
