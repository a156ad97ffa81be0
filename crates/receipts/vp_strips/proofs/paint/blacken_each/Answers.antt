use Rattle.std.proofs.Common.{arith}
use Rattle.std.proofs.lemmas.Bool.Decides.{nat_tests}
use Rattle.vp_strips.proofs.OwnRows.{own_more, own_same, told_more}
use Rattle.vp_strips.proofs.paint.blacken_each.Goals as goal
use Rattle.vp_strips.proofs.paint.blacken_each.Goals.{then-not-same-top, else-not-same-top}

pub loop-i-preserved : goal.loop-i-preserved
loop-i-preserved g c = elim c.if-not-same-top.branch [
  | then-not-same-top w ↦ rw w.band-is (own_more c.args.same.now _ c.args.top c.loop-i.i _ _ c.loop-i.invariant _ _ _ w.row_mut.ensures.value w.row_mut.ensures.len w.if-not-same-top.true (omega (arith, w.row_mut.ensures.rows, c.requires.room, c.loop-i-test.true)) (omega (arith, c.requires.room, c.loop-i-test.true))
      (λ x h. grind (arith, nat_tests)) w.fill_dots.ensures)
  | else-not-same-top w ↦ rw w.band-is (told_more c.args.same.now _ c.args.top c.loop-i.i _ _ c.loop-i.invariant w.if-not-same-top.false)
]

pub returns : goal.returns
returns g c = own_same c.args.same.now _ _ _ _ (λ x k h. grind (arith, nat_tests)) c.loop-i.invariant
