use Rattle.std.proofs.Common.{◌≡◌, ◌≤◌, length}
use Rattle.vp_dots.specs.Dots.{dot}
use Rattle.vp_glyph.proofs.Passed.{Blacker}
use Rattle.vp_glyph.proofs.runs.blacken_rows.Given as goal

-- the rows before k are done
abbrev pub invariant-loop-k : goal.invariant-loop-k
invariant-loop-k g l = record {
  count : length l.rows ≡ g.row.N;
  after : l.from ≤ l.k;
  blacker : Blacker g.row.B (λ k x. dot l.ink x) l.from l.k l.fn.rows l.rows;
}
