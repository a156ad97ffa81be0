use Rattle.std.proofs.Common.{◌/◌, [], get_or, refl, arith}
use Rattle.vp_dots.specs.Dots.{dot}
use Rattle.vp_dots.specs.declared.Op.TheVariants.{Black}
use Rattle.vp_page.specs.declared.page.TheConstants.{PAGE_ROWS}
use Rattle.vp_page.proofs.Pages.{all_turned}
use Rattle.vp_page.proofs.Rows.{rows_same, rows_then}
use Rattle.vp_page.proofs.SquaresTurned.{all_beside, next_beside}
use Rattle.vp_page.proofs.turning.turn.Goals as goal

pub loop-i-preserved : goal.loop-i-preserved
loop-i-preserved g c = rows_then PAGE_ROWS _ _ _ _ _ _
    (λ x y. next_beside (c.unknown_in-columns.result.from / 64) c.loop-i.i x (dot (get_or c.args.turned.now x []) y)) c.loop-i.invariant c.turn_columns.ensures

pub returns : goal.returns
returns g c =
    let from = c.unknown_in-columns.result.from in
    let to = c.unknown_in-columns.result.to in
    rows_same PAGE_ROWS Black _ _ _ _ (λ x y h l. all_beside from to (from / 64) c.loop-i.i x (dot (get_or c.args.turned.now x []) y) refl
    (omega (arith, c.div_ceil.ensures, c.saturating_sub-i-end.ensures, c.loop-i-test.false)) (λ some. omega (arith, c.div_ceil.ensures, c.saturating_sub-i-end.ensures, c.loop-i.auto.i-end, c.unknown_in-columns.ensures.within, some))
    (λ k f. c.unknown_in-columns.ensures.white y x (omega (arith, h)) k (rw c.turned.ensures (all_turned x y k h)) f)) c.loop-i.invariant
