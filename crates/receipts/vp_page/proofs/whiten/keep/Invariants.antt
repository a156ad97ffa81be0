use Rattle.std.proofs.Common.{◌*◌, ◌/◌, ◌&&◌, not, ltb}
use Rattle.vp_dots.specs.Dots.{dot}
use Rattle.vp_dots.specs.Painting.{Painted}
use Rattle.vp_dots.specs.declared.Op.TheVariants.{White}
use Rattle.vp_page.proofs.whiten.keep.Given as goal

-- the bytes before these sixteen are done
abbrev pub invariant-loop-k : goal.invariant-loop-k
invariant-loop-k g l = Painted White (λ d. ltb (d / 8) (16 * l.k) && not (dot l.kept d)) l.fn.row l.row
