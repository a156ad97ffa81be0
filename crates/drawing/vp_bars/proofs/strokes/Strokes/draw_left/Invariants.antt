use Rattle.std.proofs.Common.{◌≤◌, take}
use Rattle.vp_dots.specs.Dots.{dots}
use Rattle.vp_bars.specs.Elements.{left_elements}
use Rattle.vp_bars.specs.Widths.{sized}
use Rattle.vp_bars.specs.Drawing.{Draws, HandedOut}
use Rattle.vp_bars.proofs.strokes.Strokes.draw_left.Given as goal

-- the digits so far
abbrev pub invariant-loop-i : goal.invariant-loop-i
invariant-loop-i l = Draws l.op l.fn.at l.fn.row l.row l.fn.pen l.pen (sized l.self.symbology l.self.narrow l.self.wide (left_elements (take l.i l.sets) (take l.i l.digits)))
    × HandedOut l.fn.at (dots l.fn.row) l.fn.pen.x l.pen.x l.pieces × l.pieces ≤ l.i
