use Rattle.std.proofs.Common.{◌+◌, ◌*◌}
use Rattle.vp_glyph.proofs.Gathered.{Blackened}
use Rattle.vp_glyph.proofs.fronts.blacken_fours.Given as goal

-- the first 4 k halves
abbrev pub invariant-loop-k : goal.invariant-loop-k
invariant-loop-k g l = Blackened l.ink l.from (l.from + 4 * l.k) l.fn.halves l.halves
