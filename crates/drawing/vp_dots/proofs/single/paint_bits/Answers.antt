use Rattle.std.proofs.Common.{arith, sym, ◌∙◌, w64, ◌*◌, length}
use Rattle.std.proofs.lemmas.Int.{to_z-of_z}
use Rattle.vp_dots.specs.Dots.{dot}
use Rattle.vp_dots.proofs.Rows.{dot_inside}
use Rattle.vp_dots.proofs.Moves.{row_init, row_more, row_skip, row_all}
use Rattle.vp_dots.proofs.single.paint_bits.Goals as goal
use Rattle.vp_dots.proofs.single.paint_bits.Goals.{then-dot_of, else-dot_of}

pub loop-x-init : goal.loop-x-init
loop-x-init c = row_init _ _ _ _

pub loop-x-preserved : goal.loop-x-preserved
loop-x-preserved c =
    elim c.if-dot_of.branch [
      | then-dot_of w ↦ rw w.row-is (row_more _ _ (dot c.args.source.now) _ _ _ _ c.loop-x.invariant w.paint_moved_dot.ensures (sym c.dot_of.ensures ∙ w.if-dot_of.true))
      | else-dot_of w ↦ rw w.row-is (row_skip _ _ (dot c.args.source.now) _ _ _ c.loop-x.invariant (sym c.dot_of.ensures ∙ w.if-dot_of.false))
    ]

pub returns : goal.returns
returns c =
    rw (sym (to_z-of_z w64 c.args.at c.ranges.at)) (row_all _ _ (dot c.args.source.now) (8 * length c.args.source.now) c.loop-x.x _ _
    (λ x h. dot_inside c.args.source.now x h) (omega arith) c.loop-x.invariant)
