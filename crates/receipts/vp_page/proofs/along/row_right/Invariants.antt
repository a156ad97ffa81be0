use Rattle.std.proofs.Common.{◌+◌, ◌-◌, ◌*◌, ◌&&◌, leb, ltb, replicate}
use Rattle.vp_dots.specs.Dots.{dot}
use Rattle.vp_dots.specs.Painting.{Painted}
use Rattle.vp_dots.specs.declared.Op.TheVariants.{Black}
use Rattle.vp_page.proofs.along.row_right.Given as goal

-- the words before this one are made
abbrev pub invariant-loop-i : goal.invariant-loop-i
invariant-loop-i g l = Painted Black (λ d. ltb d (64 * (l.first + l.i)) && (leb (64 * l.first) d && (leb l.begin d && dot l.line (d - l.begin)))) (replicate g.row.B 0) l.row
