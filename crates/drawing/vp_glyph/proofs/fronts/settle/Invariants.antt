use Rattle.vp_glyph.proofs.Gathered.{Settled}
use Rattle.vp_glyph.proofs.fronts.settle.Given as goal

-- the groups before k are settled
abbrev pub invariant-loop-k : goal.invariant-loop-k
invariant-loop-k g l = Settled l.groups g.row.N l.k l.fn.fronts l.fronts
