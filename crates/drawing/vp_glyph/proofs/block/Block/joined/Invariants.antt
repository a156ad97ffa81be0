use Rattle.std.proofs.Common.{ℕ, ◌≡◌, ◌+◌, ◌*◌, ◌<◌, ◌≤◌, None, ◌||◌, get_or, length, take}
use Rattle.vp_dots.specs.Dots.{shifted}
use Rattle.vp_glyph.specs.Halves.{half_dot}
use Rattle.vp_glyph.specs.Blocks.{first, lines_dot, block_lines, line_pieces, pieces}
use Rattle.vp_glyph.proofs.Handed.{pieces_left}
use Rattle.vp_glyph.specs.Layouts.{layout_of, sheet_rows, HaveLine}
use Rattle.vp_glyph.proofs.Stacks.{lines_left}
use Rattle.vp_glyph.proofs.block.Block.joined.Given as goal

-- the lines so far are in the words
abbrev pub invariant-loop-left : goal.invariant-loop-left
invariant-loop-left g l = record {
  joined : (s x : ℕ) → s < 24 → x < 32 → shifted l.fn.at (λ x. lines_dot (sheet_rows (layout_of l.self)) 0 (block_lines l.most l.fn.text) x s) x
      ≡ (half_dot (get_or l.rows s 0) x || shifted l.fn.at (λ x. lines_dot (sheet_rows (layout_of l.self)) 0 (lines_left l.most l.left) x s) x);
  last : HaveLine (layout_of l.self) l.fn.at (take l.last.cells (first (pieces l.last.text.now))) l.rows;
  counted : l.counter + 2 * pieces_left l.left ≤ l.fn.counter + 2 * line_pieces l.fn.text;
  some : l.left ≡ None → 0 < l.counter;
}

-- how many lines are left
abbrev pub decreases-loop-left : goal.decreases-loop-left
decreases-loop-left g l = length (lines_left l.most l.left)
