use Rattle.std.proofs.Common.{◌&&◌, ltb, ◌/◌, ◌+◌}
use Rattle.vp_dots.specs.Dots.{dot}
use Rattle.vp_dots.specs.Painting.{Painted}
use Rattle.vp_dots.proofs.kernel.paint_skewed_left.Given as goal

-- the bytes left of i are done
abbrev pub invariant-loop-i : goal.invariant-loop-i
invariant-loop-i l = Painted l.op (λ d. ltb (d / 8) l.i && dot l.source (d + l.s)) l.fn.row l.row
