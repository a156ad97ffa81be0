use Rattle.std.proofs.Common.{◌+◌, ◌-◌, ◌&&◌, leb, ltb}
use Rattle.vp_dots.specs.Dots.{dot, span}
use Rattle.vp_dots.specs.Places.{RowsPainted}
use Rattle.vp_dots.specs.declared.Op.TheVariants.{Black}
use Rattle.vp_page.specs.Halves.{along_row, from_top}
use Rattle.vp_page.specs.Lines.{row_in}
use Rattle.vp_page.proofs.along.lay_whole.Given as goal

-- the rows above top + i are done
abbrev pub invariant-loop-i : goal.invariant-loop-i
invariant-loop-i g l = RowsPainted g.row.H Black
    (λ x k. ltb k (l.top + l.i) && (leb l.top k && (span l.area.x (l.area.x + l.area.dx) x && dot (row_in l.bytes l.wide (from_top l.direction l.rows (k - l.top))) (along_row l.area l.direction x)))) l.fn.band l.band
