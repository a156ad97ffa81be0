use Rattle.std.proofs.Common.{◌≤◌, take}
use Rattle.std.specs.List.{flat_map}
use Rattle.vp_dots.specs.Dots.{dots}
use Rattle.vp_bars.specs.Widths.{next_widths}
use Rattle.vp_bars.specs.Drawing.{Draws, HandedOut}
use Rattle.vp_bars.proofs.strokes.Strokes.draw_next.Given as goal

-- the characters so far
abbrev pub invariant-loop-v : goal.invariant-loop-v
invariant-loop-v l = Draws l.op l.fn.at l.fn.row l.row l.fn.pen l.pen (flat_map (next_widths l.self.symbology l.self.narrow l.self.wide) (take l.v-index l.values))
    × HandedOut l.fn.at (dots l.fn.row) l.fn.pen.x l.pen.x l.pieces × l.pieces ≤ l.v-index
