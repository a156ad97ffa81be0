use Rattle.std.proofs.Common.{◌+◌, ◌*◌, ◌/◌, ◌&&◌}
use Rattle.vp_dots.specs.Dots.{dot, span}
use Rattle.vp_dots.specs.Painting.{Painted}
use Rattle.vp_dots.specs.declared.Op.TheVariants.{Black}
use Rattle.vp_page.proofs.words.or_sixteens.Given as goal

-- the bytes before these sixteen are done
abbrev pub invariant-loop-k : goal.invariant-loop-k
invariant-loop-k l = Painted Black (λ d. span l.i (l.i + 16 * l.k) (d / 8) && dot l.bytes d) l.fn.row l.row
