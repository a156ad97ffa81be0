use Rattle.std.proofs.Common.{◌≡◌, ◌-◌, ◌≤◌, length, min, take}
use Rattle.vp_dots.specs.Dots.{shifted}
use Rattle.vp_dots.specs.Painting.{Painted}
use Rattle.vp_glyph.proofs.Sides.{so_far}
use Rattle.vp_glyph.proofs.text.paint_cells.Given as goal

-- the cells before k are painted, and as many are counted
abbrev pub invariant-loop-k : goal.invariant-loop-k
invariant-loop-k g l = record {
  after : l.from ≤ l.k;
  counted : l.painted ≡ min l.k l.to - min l.from l.to;
  painted : Painted l.op (shifted l.fn.at (so_far l.sheet (take (length l.text) l.text) l.stretch.width l.h 0 l.y l.k)) l.fn.row l.row;
}
