use Rattle.std.proofs.Common.{◌≡◌, ◌-◌, ◌≤◌, length}
use Rattle.vp_glyph.specs.Blocks.{block_lines, lines_dot}
use Rattle.vp_glyph.specs.Layouts.{layout_of}
use Rattle.vp_glyph.proofs.Stacks.{lines_left}
use Rattle.vp_glyph.proofs.block.BlockInk.ink.Given as goal

-- the lines so far have no such dot
abbrev pub invariant-loop-left : goal.invariant-loop-left
invariant-loop-left g l = record {
  place_within : l.place ≤ l.self.rows - 1;
  rest_is : lines_dot (layout_of l.self) l.place (lines_left l.most l.left) l.x l.y
      ≡ lines_dot (layout_of l.self) 0 (block_lines l.most l.self.text.now) l.x l.y;
}

-- how many lines are left
abbrev pub decreases-loop-left : goal.decreases-loop-left
decreases-loop-left g l = length (lines_left l.most l.left)
