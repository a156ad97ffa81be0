use Rattle.std.proofs.Common.{take, ◌+◌, ◌-◌, ◌*◌, ◌≤◌, min}
use Rattle.vp_glyph.specs.Blocks.{pieces, first, line_dot}
use Rattle.vp_glyph.specs.Layouts.{layout_of}
use Rattle.vp_glyph.specs.Runs.{run_dot}
use Rattle.vp_glyph.proofs.Sheeted.{Shown}
use Rattle.vp_glyph.proofs.block.Block.draw_line.Given as goal

-- the rows before k are drawn
abbrev pub invariant-loop-k : goal.invariant-loop-k
invariant-loop-k g l = record {
  upto : l.k ≤ 32;
  counted : l.fn.counter ≤ l.counter;
  most : l.counter ≤ l.fn.counter + l.k * l.line.cells;
  begun : min (l.place * l.self.pitch - l.top) 32 ≤ l.k;
  shown : Shown 32 160 l.top l.fn.at (λ v y. line_dot (layout_of l.self) l.place (take l.line.cells (first (pieces l.line.text.now))) v y) l.k
      (λ k x. run_dot l.fn.rows.alone l.fn.rows.down l.fn.rows.up 32 k x) (λ k x. run_dot l.rows.alone l.rows.down l.rows.up 32 k x);
}

abbrev pub decreases-loop-k : goal.decreases-loop-k
decreases-loop-k g l = l.end - l.k
