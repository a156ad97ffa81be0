use Rattle.std.proofs.Common.{◌+◌, ◌*◌, ◌/◌, min}
use Rattle.vp_dots.specs.Dots.{span}
use Rattle.vp_dots.specs.Painting.{Painted}
use Rattle.vp_dots.specs.declared.Op.TheVariants.{Black}
use Rattle.vp_strips.proofs.paint.blacken_bytes.Given as goal

-- k blocks are done
abbrev pub invariant-loop-k : goal.invariant-loop-k
invariant-loop-k g l = Painted Black (λ d. span l.from (l.from + 64 * l.k) (d / 8)) l.fn.row l.row

-- and k times sixteen bytes behind them
abbrev pub invariant-loop-k-2 : goal.invariant-loop-k-2
invariant-loop-k-2 g l = Painted Black (λ d. span l.from (min (l.rest + 16 * l.k) l.to) (d / 8)) l.fn.row l.row
