use Rattle.std.proofs.Common.{ℕ, ◌≡◌, ◌*◌, ◌-◌, ◌<◌, ◌≤◌, ◌||◌, get_or, take}
use Rattle.vp_dots.specs.Dots.{shifted}
use Rattle.vp_glyph.specs.Halves.{half_dot}
use Rattle.vp_glyph.specs.Blocks.{pieces, first}
use Rattle.vp_glyph.proofs.Pieces.{Behind}
use Rattle.vp_glyph.proofs.Sides.{so_far}
use Rattle.vp_glyph.proofs.joined.add_cells.Given as goal

-- the cells before k are added
abbrev pub invariant-loop-k : goal.invariant-loop-k
invariant-loop-k g l = record {
  within : l.k ≤ l.line.cells;
  counted : l.drawn ≤ l.k;
  none : l.drawn ≡ 0 → l.stretch.width * l.k ≤ l.from;
  behind : Behind l.k (pieces l.line.text.now) (pieces l.rest);
  added : (s x : ℕ) → s < 24 → x < 32 → half_dot (get_or l.rows s 0) x
      ≡ (half_dot (get_or l.fn.rows s 0) x || shifted l.fn.at (so_far l.sheet (take l.line.cells (first (pieces l.line.text.now))) l.stretch.width 24 l.left s l.k) x);
}

abbrev pub decreases-loop-k : goal.decreases-loop-k
decreases-loop-k g l = l.line.cells - l.k
