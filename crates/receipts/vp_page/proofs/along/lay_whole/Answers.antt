use Rattle.std.proofs.Common.{◌≡◌, ◌+◌, ◌-◌, ◌*◌, ◌&&◌, ◌∙◌, ap, sym, arith, leb, take, drop}
use Rattle.vp_dots.specs.Dots.{dot, span}
use Rattle.vp_dots.specs.declared.Op.TheVariants.{Black}
use Rattle.vp_dots.proofs.Paints.{painted_same}
use Rattle.vp_dots.proofs.Placing.{rows_more}
use Rattle.vp_page.specs.Halves.{along_row, from_top}
use Rattle.vp_page.specs.Lines.{row_in}
use Rattle.vp_page.proofs.PageRows.{as_many, row_at}
use Rattle.vp_page.proofs.Rows.{rows_same}
use Rattle.vp_page.proofs.along.lay_whole.Goals as goal

pub loop-i-preserved : goal.loop-i-preserved
loop-i-preserved g c =
    let a = c.args.area in
    let top = c.args.top in
    let i = c.loop-i.i in
    let wide = c.args.wide in
    let bytes = c.args.bytes.now in
    let at = c.row_from_top.result * wide in
    let next : top + (i + 1) ≡ top + i + 1 = omega arith in
    let long : at + wide - at ≡ wide = omega arith in
    let these : take (at + wide - at) (drop at bytes) ≡ row_in bytes wide (from_top c.args.direction c.args.rows i) =
    ap (λ n. take n (drop at bytes)) long ∙ ap (row_in bytes wide) c.row_from_top.ensures.value in
    rw next (rows_more _ _ (λ x k. leb top k && (span a.x (a.x + a.dx) x && dot (row_in bytes wide (from_top c.args.direction c.args.rows (k - top))) (along_row a c.args.direction x))) (top + i) _ _ _
    (omega (arith, c.row_mut.ensures.rows, c.min-i-end.ensures, c.saturating_sub.ensures)) (omega (arith, c.min-i-end.ensures, c.saturating_sub.ensures)) c.loop-i.invariant
    (painted_same Black _ _ _ _
    (λ x l. ap (λ row. span a.x (a.x + a.dx) x && dot row (along_row a c.args.direction x)) these
    ∙ row_at top i (span a.x (a.x + a.dx) x) (λ k. dot (row_in bytes wide (from_top c.args.direction c.args.rows k)) (along_row a c.args.direction x)))
    (rw (sym c.row_mut.ensures.value) c.or_whole.ensures)))

pub returns : goal.returns
returns g c = rows_same g.row.H Black _ _ _ _
    (λ x k h _. as_many g.row.H c.args.top c.loop-i.i c.args.rows k
    (span c.args.area.x (c.args.area.x + c.args.area.dx) x && dot (row_in c.args.bytes.now c.args.wide (from_top c.args.direction c.args.rows (k - c.args.top))) (along_row c.args.area c.args.direction x)) h
    (omega (arith, c.min-i-end.ensures, c.saturating_sub.ensures))) c.loop-i.invariant
