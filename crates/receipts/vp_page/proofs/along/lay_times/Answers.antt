use Rattle.std.proofs.Common.{◌≡◌, ◌+◌, ◌&&◌, sym, arith, leb}
use Rattle.vp_dots.specs.Dots.{dot}
use Rattle.vp_dots.specs.declared.Op.TheVariants.{Black}
use Rattle.vp_dots.proofs.Paints.{painted_same}
use Rattle.vp_dots.proofs.Placing.{rows_more}
use Rattle.vp_page.proofs.PageRows.{as_many, row_below}
use Rattle.vp_page.proofs.Rows.{rows_same}
use Rattle.vp_page.proofs.along.lay_times.Goals as goal

pub loop-i-preserved : goal.loop-i-preserved
loop-i-preserved g c =
    let y = c.args.top + c.loop-i.i in
    let next : c.args.top + (c.loop-i.i + 1) ≡ y + 1 = omega arith in
    rw next (rows_more _ _ (λ x k. leb c.args.top k && dot c.args.row.now x) y _ _ _ (omega (arith, c.row_mut.ensures.rows, c.min-i-end.ensures, c.saturating_sub.ensures)) (omega (arith, c.min-i-end.ensures, c.saturating_sub.ensures)) c.loop-i.invariant
    (painted_same Black _ _ _ _ (λ d l. row_below c.args.top c.loop-i.i (dot c.args.row.now d))
    (rw (sym c.row_mut.ensures.value) c.or_row.ensures)))

pub returns : goal.returns
returns g c = rows_same g.row.H Black _ _ _ _ (λ x k h _. as_many g.row.H c.args.top c.loop-i.i c.args.times k (dot c.args.row.now x) h (omega (arith, c.min-i-end.ensures, c.saturating_sub.ensures))) c.loop-i.invariant
