use Rattle.std.proofs.Common.{◌&&◌, ltb}
use Rattle.vp_dots.specs.Places.{placed, RowsPainted}
use Rattle.vp_dots.proofs.place.paint_at.Given as goal

-- the rows above y are done
abbrev pub invariant-loop-y : goal.invariant-loop-y
invariant-loop-y g l = RowsPainted g.row.H l.op (λ x k. ltb k l.y && placed l.left l.top (g.I.Ink.ink_at l.ink) x k) l.fn.band l.band
