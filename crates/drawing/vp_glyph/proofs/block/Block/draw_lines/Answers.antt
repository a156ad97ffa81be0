use Rattle.std.proofs.Common.{ap, false, ◌≡◌, ℕ, ◌+◌, ◌∙◌, sym, refl, arith, w64, to_z, of_z}
use Rattle.std.proofs.lemmas.Int.{to_z-of_z}
use Rattle.std.proofs.Math.Nat.{mul-le-mul_right}
use Rattle.vp_glyph.specs.Runs.{run_dot}
use Rattle.vp_glyph.proofs.Handed.{pieces_left, less_left}
use Rattle.vp_glyph.proofs.Sheeted.{drawn_none, drawn_more, drawn_all, drawn_joined}
use Rattle.vp_glyph.proofs.Stacks.{lines_below}
use Rattle.vp_glyph.proofs.block.Block.draw_lines.Goals as goal
use Rattle.vp_glyph.proofs.block.Block.draw_lines.Goals.{then-draw_line, else-draw_line}

pub loop-left-init : goal.loop-left-init
loop-left-init g c = grind (arith, drawn_none, c.first_line-above.ensures.lines)

pub loop-left-preserved : goal.loop-left-preserved
loop-left-preserved g c =
    let b = c.args.self.now in
    record {
      place_within = omega arith;
      drawn = λ k l. drawn_more b.sheet.now b.w b.h b.wide b.rows b.pitch b.alignment (c.args.top + k) _ 160 _ _ c.loop-left.place c.hand_line.result.0.cells _ c.loop-left.left c.hand_line.result.1 c.in-Some.text c.hand_line.result.0.text.now _ _
          (c.loop-left.invariant.drawn k l) c.in-Some.is c.hand_line.ensures.text c.hand_line.ensures.lines (λ x m. c.draw_line.ensures.dots k x l m) (omega arith);
      counted = grind (arith, less_left, c.hand_line.ensures.less, c.loop-left.invariant.counted);
      none = λ e. absurd (omega (arith, e, c.hand_line.ensures.counted, c.draw_line.ensures.counted));
      white = λ e k x. elim c.if-draw_line.branch [
        | then-draw_line w ↦ absurd (let d = w.drawn-is in cc)
        | else-draw_line w ↦
            let before : c.loop-left.drawn ≡ false = sym w.drawn-is ∙ e in
            ap (λ r. run_dot r.alone r.down r.up 32 k x) (c.draw_line.ensures.none w.if-draw_line.false) ∙ c.loop-left.invariant.white before k x
      ];
    }

pub returns-then-from : goal.returns-then-from
returns-then-from g c =
    let b = c.args.self.now in
    rw (sym (to_z-of_z w64 c.args.at c.ranges.at)) (record {
      dots = λ k x l m n. drawn_all b.sheet.now b.w b.h b.wide b.rows b.pitch b.alignment (c.args.top + k) (to_z w64 (of_z w64 c.args.at)) 160 b.text.now c.loop-left.place c.loop-left.left _ b.some (omega arith) n
          (λ (v : ℕ). lines_below b.sheet.now b.w b.h b.wide b.rows b.pitch b.alignment v (c.args.top + k) c.loop-left.place _ c.loop-left.invariant.place_within (omega arith))
          (c.loop-left.invariant.drawn k l) x m;
      white = c.loop-left.invariant.white;
      none = c.loop-left.invariant.none;
      most = omega (arith, c.loop-left.invariant.counted);
    })

pub returns : goal.returns
returns g c =
    let b = c.args.self.now in
    rw (sym (to_z-of_z w64 c.args.at c.ranges.at)) (record {
      dots = λ k x l m n. drawn_all b.sheet.now b.w b.h b.wide b.rows b.pitch b.alignment (c.args.top + k) (to_z w64 (of_z w64 c.args.at)) 160 b.text.now c.loop-left.place c.loop-left.left _ b.some (omega arith) n
          (λ (v : ℕ). rw c.in_default.is refl)
          (c.loop-left.invariant.drawn k l) x m;
      white = c.loop-left.invariant.white;
      none = c.loop-left.invariant.none;
      most = omega (arith, c.loop-left.invariant.counted);
    })

pub returns-then-self-eq0 : goal.returns-then-self-eq0
returns-then-self-eq0 g c =
    let b = c.args.self.now in
    let at = to_z w64 (of_z w64 c.args.at) in
    let left = ap pieces_left c.in-Some.is in
    rw (sym (to_z-of_z w64 c.args.at c.ranges.at)) (record {
      dots = λ k x l m n. drawn_joined b.sheet.now b.w b.h b.wide b.rows b.pitch b.alignment (c.args.top + k) at 160 b.text.now c.loop-left.place c.loop-left.left c.in-Some.text _ _ b.some (omega arith) n c.in-Some.is (λ x m. c.draw_joined.ensures.dots k x l m)
          (c.loop-left.invariant.drawn k l) x m;
      white = λ e. absurd (let f = e in cc);
      none = λ e k x. ap (λ r. run_dot r.alone r.down r.up 32 k x) (c.draw_joined.ensures.none e) ∙ c.loop-left.invariant.none (omega (arith, e, c.draw_joined.ensures.counted)) k x;
      most = omega (arith, left, c.loop-left.invariant.counted, c.draw_joined.ensures.most);
    })

pub overflow_mul-place : goal.overflow_mul-place
overflow_mul-place g c = omega (arith, mul-le-mul_right c.args.self.now.pitch c.loop-left.invariant.place_within)
