use Rattle.std.proofs.Common.{inl, inr, ℕ, List, ◌*◌, ◌||◌, ◌+◌, ◌∙◌, ap, get_or, sym, refl, arith, w64, to_z, of_z}
use Rattle.std.proofs.Math.Nat.{mul-le-mul_right}
use Rattle.std.proofs.lemmas.Int.{to_z-of_z}
use Rattle.vp_glyph.specs.Halves.{half_dot, front_dot}
use Rattle.vp_glyph.proofs.Gathered.{shown}
use Rattle.vp_glyph.proofs.Handed.{pieces_left, less_left}
use Rattle.vp_glyph.proofs.Joining.{line_added, lines_added, rows_none}
use Rattle.vp_glyph.proofs.Sheeted.{drawn_none, drawn_more, drawn_all, drawn_joined}
use Rattle.vp_glyph.proofs.Stacks.{lines_below}
use Rattle.vp_glyph.proofs.block.Block.add_lines.Goals as goal
use Rattle.vp_glyph.proofs.block.Block.add_lines.Goals.{then-self-eq0-via-then-self-eq0, then-self-eq0-via-else-self-eq0+then-place-self}

pub loop-left-init : goal.loop-left-init
loop-left-init g c =
    grind (arith, rows_none, drawn_none, c.new-kept.ensures.first, c.new-kept.ensures.first_cells, c.requires.white)

pub loop-left-preserved : goal.loop-left-preserved
loop-left-preserved g c =
    let b = c.args.self.now in
    record {
      place_within = omega arith;
      first_is = c.keep.ensures.first;
      second_is = c.keep.ensures.second;
      drawn = λ i l. drawn_more b.sheet.now b.w b.h b.wide b.rows b.pitch b.alignment (c.args.top + i) _ 4 _ _ c.loop-left.place c.hand_line.result.0.cells _ c.loop-left.left c.hand_line.result.1 c.in-Some.text c.hand_line.result.0.text.now _ _
          (c.loop-left.invariant.drawn i l) c.in-Some.is c.hand_line.ensures.text c.hand_line.ensures.lines (λ x m. line_added b.sheet.now b.w b.h b.wide b.rows b.pitch b.alignment _ x _ c.loop-left.place _ _ _ _ m (c.spread-in-Some.ensures i x l m ∙ ap (λ h. front_dot 16 c.loop-left.groups c.loop-left.fronts i x || shown c.latest.result.now.rows (c.loop-left.place * b.pitch) h (c.args.top + i) x) c.of-starts.ensures) (rw c.latest.ensures c.keep.ensures.line)) (omega arith);
      counted = grind (arith, less_left, c.hand_line.ensures.less, c.loop-left.invariant.counted);
      none = λ e. absurd (omega (arith, e, c.hand_line.ensures.counted, c.keep.ensures.counted));
    }

pub returns-then-from-seen : goal.returns-then-from-seen
returns-then-from-seen g c =
    let b = c.args.self.now in
    rw (sym (to_z-of_z w64 c.args.at c.ranges.at)) (record {
      added = λ i x l m k. drawn_all b.sheet.now b.w b.h b.wide b.rows b.pitch b.alignment (c.args.top + i) (to_z w64 (of_z w64 c.args.at)) 4 b.text.now c.loop-left.place c.loop-left.left _ b.some (omega arith) k
          (λ (v : ℕ). lines_below b.sheet.now b.w b.h b.wide b.rows b.pitch b.alignment v (c.args.top + i) c.loop-left.place _ c.loop-left.invariant.place_within (omega arith))
          (c.loop-left.invariant.drawn i l) x m;
      most = omega (arith, c.loop-left.invariant.counted);
      none = c.loop-left.invariant.none;
    })

pub returns : goal.returns
returns g c =
    let b = c.args.self.now in
    rw (sym (to_z-of_z w64 c.args.at c.ranges.at)) (record {
      added = λ i x l m k. drawn_all b.sheet.now b.w b.h b.wide b.rows b.pitch b.alignment (c.args.top + i) (to_z w64 (of_z w64 c.args.at)) 4 b.text.now c.loop-left.place c.loop-left.left _ b.some (omega arith) k
          (λ (v : ℕ). rw c.in_default.is refl)
          (c.loop-left.invariant.drawn i l) x m;
      most = omega (arith, c.loop-left.invariant.counted);
      none = c.loop-left.invariant.none;
    })

pub returns-then-self-eq0 : goal.returns-then-self-eq0
returns-then-self-eq0 g c =
    let b = c.args.self.now in
    let at = to_z w64 (of_z w64 c.args.at) in
    rw (sym (to_z-of_z w64 c.args.at c.ranges.at)) (record {
      added = λ i x l m k. drawn_joined b.sheet.now b.w b.h b.wide b.rows b.pitch b.alignment (c.args.top + i) at 4 b.text.now c.loop-left.place c.loop-left.left c.in-Some.text _ _ b.some (omega arith) k c.in-Some.is
          (λ v m. lines_added b.sheet.now b.w b.h b.wide b.rows b.pitch b.alignment at v (c.args.top + i) c.loop-left.place _ _ _ _ m
          (elim c.then-self-eq0.branch [
            | then-self-eq0-via-then-self-eq0 w ↦ (let p = w.if-self-eq0.true in inl (omega arith))
            | then-self-eq0-via-else-self-eq0+then-place-self w ↦ (let p = w.if-place-self.true in inr (omega (arith, c.loop-left.invariant.place_within)))
          ])
          (c.spread.ensures i v l m ∙ ap (λ h. front_dot 16 c.loop-left.groups c.loop-left.fronts i v || shown c.of-shown.result.rows (c.loop-left.place * b.pitch) h (c.args.top + i) v) c.of-starts.ensures) (λ r u p q. ap (λ (shown : List ℕ). half_dot (get_or shown r 0) u) c.of-shown.ensures ∙ c.joined.ensures.rows r u p q))
          (c.loop-left.invariant.drawn i l) x m;
      most = (let left = ap pieces_left c.in-Some.is in omega (arith, left, c.loop-left.invariant.counted, c.joined.ensures.most));
      none = λ e. absurd (omega (arith, e, c.joined.ensures.some));
    })

pub overflow_mul-place : goal.overflow_mul-place
overflow_mul-place g c = omega (arith, mul-le-mul_right c.args.self.now.pitch c.loop-left.invariant.place_within)

pub overflow_mul-place-then-self-eq0 : goal.overflow_mul-place-then-self-eq0
overflow_mul-place-then-self-eq0 g c = omega (arith, mul-le-mul_right c.args.self.now.pitch c.loop-left.invariant.place_within)

pub overflow_mul-place-in-Some : goal.overflow_mul-place-in-Some
overflow_mul-place-in-Some g c = omega (arith, mul-le-mul_right c.args.self.now.pitch c.loop-left.invariant.place_within)

pub spread-requires-in-Some : goal.spread-requires-in-Some
spread-requires-in-Some g c = omega (arith, c.of-starts.ensures, mul-le-mul_right c.args.self.now.pitch c.loop-left.invariant.place_within)
