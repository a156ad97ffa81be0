use Rattle.std.proofs.Common.{◌&&◌, ltb}
use Rattle.vp_dots.specs.Dots.{shifted, dot}
use Rattle.vp_dots.specs.Painting.{Painted}
use Rattle.vp_dots.proofs.single.paint_bits.Given as goal

-- the dots left of x are done
abbrev pub invariant-loop-x : goal.invariant-loop-x
invariant-loop-x l = Painted l.op (shifted l.at (λ i. ltb i l.x && dot l.source i)) l.fn.row l.row
