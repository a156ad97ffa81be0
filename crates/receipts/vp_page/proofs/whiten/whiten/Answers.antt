use Rattle.std.proofs.lemmas.Bool.Decides.{nat_tests}
use Rattle.std.proofs.Common.{not, ◌≡◌, ◌+◌, ◌&&◌, sym, arith}
use Rattle.vp_dots.specs.Dots.{dot, span}
use Rattle.vp_dots.specs.declared.Op.TheVariants.{White}
use Rattle.vp_dots.proofs.Paints.{painted_same}
use Rattle.vp_dots.proofs.Placing.{rows_more}
use Rattle.vp_page.specs.Areas.{holds}
use Rattle.vp_page.proofs.whiten.whiten.Goals as goal

pub loop-i-init : goal.loop-i-init
loop-i-init g c = grind arith

pub loop-i-preserved : goal.loop-i-preserved
loop-i-preserved g c =
    let y = c.args.rows.from + c.loop-i.i in
    let next : c.args.rows.from + (c.loop-i.i + 1) ≡ y + 1 = omega arith in
    rw next (rows_more _ _ (λ x k. span c.args.rows.from c.args.rows.to k && holds c.args.area x k) y _ _ _ (omega (arith, c.row_mut.ensures.rows, c.requires.few, c.saturating_sub-i-end.ensures))
    (omega (arith, c.requires.few, c.saturating_sub-i-end.ensures)) c.loop-i.invariant
    (painted_same White (λ d. not (dot c.kept_by-kept.result d)) _ _ _ (λ d l. grind (arith, nat_tests, c.kept_by-kept.ensures d, c.row_mut.ensures.len, c.row_mut.ensures.value))
    (rw (sym c.row_mut.ensures.value) c.keep.ensures)))

pub returns : goal.returns
returns g c = grind arith
