use Rattle.std.proofs.Common.{min, ◌/◌}
use Rattle.vp_dots.specs.Dots.{span}
use Rattle.vp_dots.specs.Painting.{Painted}
use Rattle.vp_dots.proofs.span.paint_bytes.Given as goal

-- the bytes so far are done
abbrev pub invariant-loop-i : goal.invariant-loop-i
invariant-loop-i l = Painted l.op (λ d. span l.from (min l.i l.to) (d / 8)) l.fn.row l.row
