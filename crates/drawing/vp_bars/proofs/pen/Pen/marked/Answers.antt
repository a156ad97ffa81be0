use Rattle.std.proofs.Common.{arith}
use Rattle.vp_bars.proofs.WordBars.{marked_bar}
use Rattle.vp_bars.proofs.pen.Pen.marked.Goals as goal

pub returns-then-self : goal.returns-then-self
returns-then-self c = grind (arith, marked_bar)
