use Rattle.std.proofs.Common.{◌≡◌, ◌-◌, ◌||◌, [], get_or, length}
use Rattle.vp_dots.specs.Dots.{dot}
use Rattle.vp_glyph.proofs.Passed.{Blacker}
use Rattle.vp_glyph.proofs.runs.overlay.Given as goal

-- the rows before k are done
abbrev pub invariant-loop-k : goal.invariant-loop-k
invariant-loop-k g l = record {
  count : length l.rows ≡ g.row.N;
  blacker : Blacker g.row.B (λ k x. dot (get_or l.down k []) x || dot (get_or l.up (g.row.N - 1 - k) []) x) 0 l.k l.fn.rows l.rows;
}
