use Rattle.std.proofs.Common.{◌≡◌, ◌+◌, length}
use Rattle.vp_glyph.proofs.Gathered.{Blackened}
use Rattle.vp_glyph.proofs.fronts.blacken_next.Given as goal

-- the first i halves
abbrev pub invariant-loop-i : goal.invariant-loop-i
invariant-loop-i g l = record {
  count : length l.halves ≡ g.row.N;
  blackened : Blackened l.ink l.from (l.from + l.i) l.fn.halves l.halves;
}
