use Rattle.std.proofs.Common.{ℕ, ◌≡◌, ◌+◌, ◌-◌, ◌*◌, ◌≤◌, length}
use Rattle.vp_glyph.specs.Blocks.{block_lines, line_pieces, lines_dot}
use Rattle.vp_glyph.specs.Layouts.{layout_of}
use Rattle.vp_glyph.proofs.Handed.{pieces_left}
use Rattle.vp_glyph.proofs.Overlaid.{Overlaid}
use Rattle.vp_glyph.proofs.Stacks.{lines_left}
use Rattle.vp_glyph.proofs.block.Block.paint_lines.Given as goal

-- the lines so far are painted
abbrev pub invariant-loop-left : goal.invariant-loop-left
invariant-loop-left g l = record {
  place_within : l.place ≤ l.self.rows - 1;
  overlaid : Overlaid l.self.sheet.now l.self.w l.self.h l.self.wide l.self.rows l.self.pitch l.self.alignment l.y l.op l.fn.at l.most (block_lines l.most l.self.text.now) l.place l.left l.fn.row l.row;
  counted : l.counter + 2 * pieces_left l.left ≤ 2 * line_pieces l.self.text.now;
  none : l.counter ≡ 0 → (x : ℕ) → lines_dot (layout_of l.self) 0 (block_lines l.most l.self.text.now) x l.y ≡ lines_dot (layout_of l.self) l.place (lines_left l.most l.left) x l.y;
}

-- how many lines are left
abbrev pub decreases-loop-left : goal.decreases-loop-left
decreases-loop-left g l = length (lines_left l.most l.left)
