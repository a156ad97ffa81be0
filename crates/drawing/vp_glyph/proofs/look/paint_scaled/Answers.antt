use Rattle.std.proofs.Common.{arith, sym, ◌∙◌, w64, ap, ◌≡◌, ◌+◌}
use Rattle.std.proofs.lemmas.Int.{to_z-of_z}
use Rattle.vp_glyph.proofs.Spread.{edge_at, running_none, running_on, running_off, running_all}
use Rattle.vp_glyph.proofs.look.paint_scaled.Goals as goal
use Rattle.vp_glyph.proofs.look.paint_scaled.Goals.{then-not-dot_in_word, else-not-dot_in_word}

pub loop-s-init : goal.loop-s-init
loop-s-init c = running_none _ _ _ _ _ _ (omega arith) _

pub loop-s-preserved : goal.loop-s-preserved
loop-s-preserved c =
    let next : c.args.left + c.edge.result ≡ c.args.left + edge_at 12 c.args.width (c.loop-s.s + 1) = ap (λ e. c.args.left + e) c.edge.ensures.edge in
    elim c.if-not-dot_in_word.branch [
      | then-not-dot_in_word w ↦ rw (w.row-is, w.from-is) (running_off _ _ _ _ _ _ (omega arith) c.loop-s.s c.loop-s.from c.loop-s.to _ _ _ _ c.loop-s-test.true c.loop-s.invariant w.fill_moved.ensures next (sym c.dot_in_word.ensures ∙ w.if-not-dot_in_word.true))
      | else-not-dot_in_word w ↦ rw (w.row-is, w.from-is) (running_on _ _ _ _ _ _ (omega arith) c.loop-s.s c.loop-s.from c.loop-s.to _ _ _ c.loop-s-test.true c.loop-s.invariant next (sym c.dot_in_word.ensures ∙ w.if-not-dot_in_word.false))
    ]

pub returns : goal.returns
returns c = rw (sym (to_z-of_z w64 c.args.at c.ranges.at)) (running_all _ _ _ _ _ _ (omega arith) c.loop-s.s c.loop-s.from c.loop-s.to _ _ _ (omega arith) c.loop-s.invariant c.fill_moved-2.ensures)
