use Rattle.std.proofs.Common.{ℕ, ◌≡◌, ◌+◌, ◌*◌, ◌<◌, ◌≤◌, None, ◌||◌, length}
use Rattle.vp_dots.specs.Dots.{dot, shifted}
use Rattle.vp_glyph.specs.Blocks.{lines_dot, block_lines, line_pieces}
use Rattle.vp_glyph.proofs.Handed.{pieces_left}
use Rattle.vp_glyph.specs.Layouts.{layout_of, sheet_rows}
use Rattle.vp_glyph.proofs.Stacks.{lines_left}
use Rattle.vp_glyph.proofs.block.Block.joined_row.Given as goal

-- the lines so far are in the row
abbrev pub invariant-loop-left : goal.invariant-loop-left
invariant-loop-left g l = record {
  count : length l.row ≡ g.row.B;
  joined : (x : ℕ) → x < 8 * g.row.B → shifted l.fn.at (λ x. lines_dot (sheet_rows (layout_of l.self)) 0 (block_lines l.most l.fn.text) x l.s) x
      ≡ (dot l.row x || shifted l.fn.at (λ x. lines_dot (sheet_rows (layout_of l.self)) 0 (lines_left l.most l.left) x l.s) x);
  counted : l.counter + 2 * pieces_left l.left ≤ l.fn.counter + 2 * line_pieces l.fn.text;
  more : l.fn.counter ≤ l.counter;
  some : l.left ≡ None → 0 < l.counter;
}

-- how many lines are left
abbrev pub decreases-loop-left : goal.decreases-loop-left
decreases-loop-left g l = length (lines_left l.most l.left)
