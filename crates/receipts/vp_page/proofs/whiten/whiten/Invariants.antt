use Rattle.std.proofs.Common.{◌+◌, ◌&&◌, ltb}
use Rattle.vp_dots.specs.Dots.{span}
use Rattle.vp_dots.specs.Places.{RowsPainted}
use Rattle.vp_dots.specs.declared.Op.TheVariants.{White}
use Rattle.vp_page.specs.Areas.{holds}
use Rattle.vp_page.proofs.whiten.whiten.Given as goal

-- the rows above these are done
abbrev pub invariant-loop-i : goal.invariant-loop-i
invariant-loop-i g l = RowsPainted g.row.H White (λ x k. ltb k (l.fn.rows.from + l.i) && (span l.fn.rows.from l.fn.rows.to k && holds l.fn.area x k)) l.fn.band l.band
