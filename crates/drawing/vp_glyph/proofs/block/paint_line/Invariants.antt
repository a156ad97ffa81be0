use Rattle.std.proofs.Common.{◌≡◌, ◌≤◌, ◌+◌, ◌-◌, ◌*◌, min, take}
use Rattle.vp_dots.specs.Dots.{shifted}
use Rattle.vp_dots.specs.Painting.{Painted}
use Rattle.vp_glyph.specs.Blocks.{pieces, first}
use Rattle.vp_glyph.proofs.Pieces.{Behind}
use Rattle.vp_glyph.proofs.Sides.{so_far}
use Rattle.vp_glyph.proofs.block.paint_line.Given as goal

-- the cells so far are painted
abbrev pub invariant-loop-i : goal.invariant-loop-i
invariant-loop-i g l = record {
  behind : Behind l._i (pieces l.line.text.now) (pieces l.rest);
  place_is : l.place ≡ l.left + l.stretch.width * l._i;
  after : l.from ≤ l._i;
  counted : l.painted ≡ min l._i l.to - min l.from l.to;
  painted : Painted l.op (shifted l.fn.at (so_far l.sheet (take l.line.cells (first (pieces l.line.text.now))) l.stretch.width l.h l.left l.y l._i)) l.fn.row l.row;
}
