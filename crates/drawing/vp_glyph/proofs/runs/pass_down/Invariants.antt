use Rattle.std.proofs.Common.{◌≡◌, length}
use Rattle.vp_glyph.proofs.Passed.{Passed}
use Rattle.vp_glyph.proofs.runs.pass_down.Given as goal

-- the rows before k have what was passed on
abbrev pub invariant-loop-k : goal.invariant-loop-k
invariant-loop-k g l = record {
  count : length l.rows ≡ g.row.N;
  passed : Passed g.row.B l.k l.fn.rows l.rows;
}
