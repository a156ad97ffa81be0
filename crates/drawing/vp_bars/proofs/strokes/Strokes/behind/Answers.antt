use Rattle.std.proofs.Common.{arith}
use Rattle.vp_bars.proofs.WordBars.{turned_by}
use Rattle.vp_bars.proofs.strokes.Strokes.behind.Goals as goal

pub returns-clause-bar : goal.returns-clause-bar
returns-clause-bar c = grind (arith, turned_by)
