use Rattle.std.proofs.Common.{take}
use Rattle.vp_bars.specs.Widths.{sized}
use Rattle.vp_bars.specs.Drawing.{Draws}
use Rattle.vp_bars.proofs.strokes.Strokes.draw_each.Given as goal

-- the elements so far
abbrev pub invariant-loop-e : goal.invariant-loop-e
invariant-loop-e l = Draws l.op l.fn.at l.fn.row l.row l.fn.pen l.pen (sized l.self.symbology l.self.narrow l.self.wide (take l.e-index l.elements))
