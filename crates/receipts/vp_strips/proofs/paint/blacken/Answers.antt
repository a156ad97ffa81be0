use Rattle.std.proofs.lemmas.Bool.Decides.{nat_tests}
use Rattle.std.proofs.Common.{◌+◌, ◌≤◌, refl, arith}
use Rattle.vp_strips.proofs.Magnified.{span_moved}
use Rattle.vp_strips.proofs.OwnRows.{own_over}
use Rattle.vp_strips.proofs.paint.blacken.Goals as goal
use Rattle.vp_strips.proofs.paint.blacken.Goals.{then-to-lt-LINE_DOTS, else-to-lt-LINE_DOTS}

pub returns-then-wide-le-NARROW : goal.returns-then-wide-le-NARROW
returns-then-wide-le-NARROW g c = grind (arith, span_moved)

pub returns : goal.returns
returns g c =
    let end = c.if-to-lt-LINE_DOTS.end in
    let before : end ≤ c.args.at + c.args.wide = elim c.if-to-lt-LINE_DOTS.branch [ then-to-lt-LINE_DOTS w ↦ omega (arith, w.end-is) | else-to-lt-LINE_DOTS w ↦ omega (arith, w.end-is) ] in
    own_over c.args.same.now _ _ _ _ _ _ (λ x k. grind (arith, before, nat_tests)) (own_over c.args.same.now _ _ _ _ _ _ (λ x k. refl) c.blacken_whole.ensures c.paint_alike-2.ensures) c.paint_alike-3.ensures
