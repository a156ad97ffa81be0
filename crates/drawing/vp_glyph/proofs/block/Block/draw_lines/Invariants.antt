use Rattle.std.proofs.Common.{◌≡◌, false, ℕ, ◌+◌, ◌*◌, ◌-◌, ◌<◌, ◌≤◌, length}
use Rattle.vp_glyph.specs.Blocks.{block_lines, line_pieces}
use Rattle.vp_glyph.proofs.Handed.{pieces_left}
use Rattle.vp_glyph.specs.Runs.{run_dot}
use Rattle.vp_glyph.proofs.Sheeted.{Drawn}
use Rattle.vp_glyph.proofs.Stacks.{lines_left}
use Rattle.vp_glyph.proofs.block.Block.draw_lines.Given as goal

-- the lines so far are drawn
abbrev pub invariant-loop-left : goal.invariant-loop-left
invariant-loop-left g l = record {
  place_within : l.place ≤ l.self.rows - 1;
  drawn : (k : ℕ) → k < 32 → Drawn l.self.sheet.now l.self.w l.self.h l.self.wide l.self.rows l.self.pitch l.self.alignment (l.top + k) l.fn.at 160 l.most (block_lines l.most l.self.text.now) l.place l.left
      (λ x. run_dot l.rows.alone l.rows.down l.rows.up 32 k x);
  counted : l.counter + 66 * pieces_left l.left ≤ 66 * line_pieces l.self.text.now;
  none : l.counter ≡ 0 → (k x : ℕ) → run_dot l.rows.alone l.rows.down l.rows.up 32 k x ≡ false;
  white : l.drawn ≡ false → (k x : ℕ) → run_dot l.rows.alone l.rows.down l.rows.up 32 k x ≡ false;
}

-- how many lines are left
abbrev pub decreases-loop-left : goal.decreases-loop-left
decreases-loop-left g l = length (lines_left l.most l.left)
