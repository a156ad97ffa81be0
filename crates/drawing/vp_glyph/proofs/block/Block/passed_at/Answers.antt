use Rattle.std.proofs.Common.{inl, inr, ◌≡◌, ℕ, suc, ◌+◌, ◌-◌, ◌/◌, ◌^◌, ◌≤◌, min, List, take, drop, sym, ap, ◌∙◌, arith, rules}
use Rattle.vp_glyph.specs.Above.{pieces_of, lines_above}
use Rattle.vp_glyph.specs.Blocks.{pieces, first, block_lines}
use Rattle.vp_glyph.specs.Layouts.{layout_of}
use Rattle.vp_glyph.proofs.Ended.{above_from, above_upto, pieces_begun, pieces_all, pieces_same, line_counted}
use Rattle.vp_glyph.proofs.Handed.{less_left, pieces_left}
use Rattle.vp_glyph.proofs.Stacks.{passed_more}
use Rattle.vp_glyph.proofs.block.Block.passed_at.Goals as goal
use Rattle.vp_glyph.proofs.block.Block.passed_at.Goals.{then-loop-passed-test+else-y-passed, else-loop-passed-test}

pub loop-passed-init : goal.loop-passed-init
loop-passed-init g c =
    let b = c.args.self.now in
    record {
      apart = omega arith;
      behind = search rules;
      less = omega arith;
      walked = omega arith;
      from = omega arith;
      above = λ l. omega (arith, l);
      counted = let n = pieces_begun b.passed c.args.self.now.walked (block_lines (b.wide / b.w) b.text.now) in omega (arith, n);
    }

pub loop-passed-preserved : goal.loop-passed-preserved
loop-passed-preserved g c =
    let less = less_left c.hand_line.result.0.cells c.loop-passed.rest.now c.hand_line.result.1 c.hand_line.ensures.less in
    let left = ap pieces_left c.in-Some.is in
    record {
      apart = omega arith;
      behind = passed_more _ c.loop-passed.passed _ _ _ _ _ c.loop-passed.invariant.behind c.hand_line.ensures.lines c.in-Some.is;
      less = omega (arith, less, left, c.loop-passed.invariant.less);
      walked = omega (arith, less, left, c.loop-passed.invariant.walked, c.hand_line.ensures.counted);
      from = omega (arith, c.loop-passed.invariant.from);
      above = λ l. above_from (layout_of c.args.self.now) c.loop-passed.passed (c.args.self.now.rows - 1) c.args.y (omega (arith, c.loop-passed-test.true)) c.if-y-passed.true;
      counted = line_counted c.args.self.now.passed c.loop-passed.passed c.args.self.now.walked c.loop-passed.walked c.hand_line.new.counter c.hand_line.result.0.cells _ c.args.self.now.text.now c.loop-passed.rest.now c.hand_line.result.1
          c.loop-passed.invariant.from c.loop-passed.invariant.behind c.hand_line.ensures.lines c.hand_line.ensures.cells c.loop-passed.invariant.counted c.hand_line.ensures.counted;
    }

pub returns-in_default-clause-counted : goal.returns-in_default-clause-counted
returns-in_default-clause-counted g c =
    let b = c.args.self.now in
    let k = c.loop-passed.passed in
    let old = c.loop-passed.invariant in
    let all = block_lines (b.wide / b.w) b.text.now in
    let line = take c.hand_line.result.0.cells (first (pieces c.loop-passed.rest.now)) in
    let above = above_from (layout_of b) k (b.rows - 1) c.args.y (omega (arith, c.loop-passed-test.true)) c.if-y-passed.true in
    let counted = line_counted b.passed k b.walked c.loop-passed.walked c.hand_line.new.counter c.hand_line.result.0.cells _ b.text.now c.loop-passed.rest.now c.hand_line.result.1
    old.from old.behind c.hand_line.ensures.lines c.hand_line.ensures.cells old.counted c.hand_line.ensures.counted in
    let lines = rw c.in_default.is at c.hand_line.ensures.lines in
    let same : k + 1 ≡ suc k = omega arith in
    counted ∙ ap (λ (ls : List (List ℕ)). min (b.walked + pieces_of (drop b.passed ls)) (2 ^ 64 - 1))
    (ap (λ i. take i all) same ∙ sym (pieces_all k (lines_above (layout_of b) c.args.y) all line (old.behind ∙ lines) (omega (arith, above))))

pub returns-clause-counted : goal.returns-clause-counted
returns-clause-counted g c =
    let b = c.args.self.now in
    let k = c.loop-passed.passed in
    let old = c.loop-passed.invariant in
    let upto : lines_above (layout_of b) c.args.y ≤ k = above_upto (layout_of b) k (b.rows - 1) c.args.y old.apart (elim c.loop-passed-test.branch [
      | then-loop-passed-test+else-y-passed w ↦ inr (omega (arith, w.if-y-passed.false))
      | else-loop-passed-test w ↦ inl (omega (arith, w.loop-passed-test.false, old.apart))
    ]) in
    let same = pieces_same b.passed k (lines_above (layout_of b) c.args.y) (block_lines (b.wide / b.w) b.text.now) old.from upto old.above in
    omega (arith, same, old.counted)
