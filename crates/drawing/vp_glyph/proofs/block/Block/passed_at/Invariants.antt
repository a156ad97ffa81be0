use Rattle.std.proofs.Common.{◌≡◌, ◌+◌, ◌-◌, ◌^◌, ◌<◌, ◌≤◌, min, take, drop}
use Rattle.vp_glyph.specs.Above.{pieces_of, lines_above}
use Rattle.vp_glyph.specs.Blocks.{block_lines, line_pieces}
use Rattle.vp_glyph.specs.Layouts.{layout_of}
use Rattle.vp_glyph.proofs.block.Block.passed_at.Given as goal

-- the lines that are passed so far
abbrev pub invariant-loop-passed : goal.invariant-loop-passed
invariant-loop-passed g l = record {
  apart : l.passed ≤ l.self.rows - 1;
  behind : drop l.passed (block_lines l.most l.self.text.now) ≡ block_lines l.most l.rest;
  less : line_pieces l.rest ≤ line_pieces l.self.rest.now;
  walked : l.walked + line_pieces l.rest ≤ l.self.walked + line_pieces l.self.rest.now;
  from : l.self.passed ≤ l.passed;
  above : l.self.passed < l.passed → l.passed ≤ lines_above (layout_of l.self) l.y;
  counted : l.walked ≡ min (l.self.walked + pieces_of (drop l.self.passed (take l.passed (block_lines l.most l.self.text.now)))) (2 ^ 64 - 1);
}

-- how many stand apart and are left
abbrev pub decreases-loop-passed : goal.decreases-loop-passed
decreases-loop-passed g l = l.self.rows - l.passed
