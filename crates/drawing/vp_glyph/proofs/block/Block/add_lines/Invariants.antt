use Rattle.std.proofs.Common.{ℕ, ◌≡◌, ◌*◌, false, ◌+◌, ◌-◌, ◌<◌, ◌≤◌, length}
use Rattle.vp_glyph.specs.Blocks.{block_lines, line_pieces}
use Rattle.vp_glyph.proofs.Handed.{pieces_left}
use Rattle.vp_glyph.specs.Halves.{front_dot}
use Rattle.vp_glyph.specs.Kept.{IsDrawn}
use Rattle.vp_glyph.specs.Layouts.{layout_of}
use Rattle.vp_glyph.proofs.Sheeted.{Drawn}
use Rattle.vp_glyph.proofs.Stacks.{lines_left}
use Rattle.vp_glyph.proofs.block.Block.add_lines.Given as goal

-- the lines so far are in the fronts
abbrev pub invariant-loop-left : goal.invariant-loop-left
invariant-loop-left g l = record {
  place_within : l.place ≤ l.self.rows - 1;
  first_is : IsDrawn (layout_of l.self) l.fn.at l.kept.first;
  second_is : IsDrawn (layout_of l.self) l.fn.at l.kept.second;
  drawn : (i : ℕ) → i < l.seen → Drawn l.self.sheet.now l.self.w l.self.h l.self.wide l.self.rows l.self.pitch l.self.alignment (l.top + i) l.fn.at 4 l.most (block_lines l.most l.self.text.now) l.place l.left
      (front_dot 16 l.groups l.fronts i);
  counted : l.counter + 2 * pieces_left l.left ≤ 2 * line_pieces l.self.text.now;
  none : l.counter ≡ 0 → (i x : ℕ) → front_dot 16 l.groups l.fronts i x ≡ false;
}

-- how many lines are left
abbrev pub decreases-loop-left : goal.decreases-loop-left
decreases-loop-left g l = length (lines_left l.most l.left)
