use Rattle.std.proofs.Common.{◌+◌, ◌&&◌, leb, ltb}
use Rattle.vp_dots.specs.Dots.{dot}
use Rattle.vp_dots.specs.Places.{RowsPainted}
use Rattle.vp_dots.specs.declared.Op.TheVariants.{Black}
use Rattle.vp_page.proofs.along.lay_times.Given as goal

-- the rows above top + i are done
abbrev pub invariant-loop-i : goal.invariant-loop-i
invariant-loop-i g l = RowsPainted g.row.H Black (λ x k. ltb k (l.top + l.i) && (leb l.top k && dot l.row x)) l.fn.band l.band
