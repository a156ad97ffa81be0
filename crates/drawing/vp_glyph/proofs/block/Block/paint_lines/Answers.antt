use Rattle.std.proofs.Common.{ℕ, arith, sym, w64, refl}
use Rattle.std.proofs.Math.Nat.{mul-le-mul_right}
use Rattle.std.proofs.lemmas.Int.{to_z-of_z}
use Rattle.vp_glyph.proofs.Handed.{less_left, seen_some, block_unseen}
use Rattle.vp_glyph.proofs.Stacks.{lines_below}
use Rattle.vp_glyph.proofs.Overlaid.{overlaid_none, overlaid_more, overlaid_all}
use Rattle.vp_glyph.proofs.block.Block.paint_lines.Goals as goal

pub loop-left-init : goal.loop-left-init
loop-left-init g c = record { place_within = omega arith; overlaid = overlaid_none _ _ _ _ _ _ _ _ _ _ _ _ _ _ _ (λ x. c.first_line-above.ensures.lines x c.args.y (omega arith)); counted = omega (arith, c.first_line-above.ensures.less); none = λ e x. c.first_line-above.ensures.lines x c.args.y (omega arith) }

pub loop-left-preserved : goal.loop-left-preserved
loop-left-preserved g c = record {
  place_within = omega arith;
  overlaid = overlaid_more _ _ _ _ _ _ _ _ _ _ _ _ c.loop-left.place c.hand_line.result.0.cells _ c.loop-left.left c.hand_line.result.1 c.in-Some.text c.hand_line.result.0.text.now _ c.loop-left.row _ c.requires.op refl
      c.loop-left.invariant.overlaid c.in-Some.is c.hand_line.ensures.text c.hand_line.ensures.cells c.hand_line.ensures.most c.hand_line.ensures.lines c.paint_line-painted.ensures.painted (omega arith);
  counted = grind (arith, less_left, c.hand_line.ensures.less, c.in-Some.is, c.hand_line.ensures.counted);
  none = λ e. absurd (omega (arith, e, c.hand_line.ensures.counted, c.saturating_add-counter.ensures));
}

pub returns : goal.returns
returns g c =
    let b = c.args.self.now in
    rw (sym (to_z-of_z w64 c.args.at c.ranges.at)) (record {
      painted = overlaid_all _ _ _ _ _ _ _ _ _ _ _ _ c.loop-left.place c.loop-left.left _ _ refl c.requires.wide c.requires.y (λ (x : ℕ). rw c.in_default.is refl) c.loop-left.invariant.overlaid;
      most = omega (arith, c.loop-left.invariant.counted);
      some = λ d l t. seen_some _ _ (λ e. block_unseen _ b.sheet.now b.w b.h b.wide b.rows b.pitch b.alignment b.text.now c.args.y c.loop-left.place c.loop-left.left d b.some c.requires.wide c.requires.y (c.loop-left.invariant.none e) (λ (x : ℕ). rw c.in_default.is refl)) t;
    })

pub returns-then-y-place : goal.returns-then-y-place
returns-then-y-place g c =
    let b = c.args.self.now in
    rw (sym (to_z-of_z w64 c.args.at c.ranges.at)) (record {
      painted = overlaid_all _ _ _ _ _ _ _ _ _ _ _ _ c.loop-left.place c.loop-left.left _ _ refl c.requires.wide c.requires.y
          (λ (x : ℕ). lines_below b.sheet.now b.w b.h b.wide b.rows b.pitch b.alignment x c.args.y c.loop-left.place _ c.loop-left.invariant.place_within (omega arith)) c.loop-left.invariant.overlaid;
      most = omega (arith, c.loop-left.invariant.counted);
      some = λ d l t. seen_some _ _
          (λ e. block_unseen _ b.sheet.now b.w b.h b.wide b.rows b.pitch b.alignment b.text.now c.args.y c.loop-left.place c.loop-left.left d b.some c.requires.wide c.requires.y (c.loop-left.invariant.none e)
          (λ (x : ℕ). lines_below b.sheet.now b.w b.h b.wide b.rows b.pitch b.alignment x c.args.y c.loop-left.place _ c.loop-left.invariant.place_within (omega arith)))
          t;
    })

pub overflow_mul-place : goal.overflow_mul-place
overflow_mul-place g c = omega (arith, mul-le-mul_right c.args.self.now.pitch c.loop-left.invariant.place_within)
