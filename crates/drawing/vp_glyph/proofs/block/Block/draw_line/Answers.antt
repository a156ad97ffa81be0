use Rattle.std.proofs.Common.{refl, take, ◌≤◌, ◌+◌, ◌-◌, ◌*◌, ◌∙◌, min, ap, arith, sym, w64, to_z, of_z}
use Rattle.std.proofs.Math.Nat.{mul-le-mul_right}
use Rattle.std.proofs.lemmas.Int.{to_z-of_z}
use Rattle.vp_glyph.specs.Blocks.{pieces, first, line_dot}
use Rattle.vp_dots.specs.Dots.{shifted}
use Rattle.vp_glyph.specs.Layouts.{layout_of, sheet_rows}
use Rattle.vp_glyph.proofs.Gathered.{row_alike}
use Rattle.vp_glyph.proofs.Joining.{line_rows}
use Rattle.vp_glyph.proofs.Sheeted.{rows_more, shown_none, shown_more, shown_all}
use Rattle.vp_glyph.proofs.block.Block.draw_line.Goals as goal

pub loop-k-init : goal.loop-k-init
loop-k-init g c = grind (arith, shown_none)

pub loop-k-preserved : goal.loop-k-preserved
loop-k-preserved g c =
    let b = c.args.self.now in
    let line = (take c.args.line.cells (first (pieces c.args.line.text.now))) in
    let begun = c.loop-k.invariant.begun in
    let end = c.rows_above-end.ensures in
    let to = c.rows_above-to.ensures ∙ ap (λ e. min (c.args.place * b.pitch + e - c.args.top) 32) c.first_row.ensures.row in
    let more = rows_more 32 c.args.top (c.args.place * b.pitch) b.h c.loop-k.k _ _ (omega (arith, end)) (omega (arith, begun, end)) (omega (arith, begun, end)) c.source_row-s.ensures to in
    record {
      upto = omega (arith, to);
      counted = omega (arith, c.loop-k.invariant.counted, c.add_run.ensures.counted);
      most = (let m : (c.loop-k.k + 1) * c.args.line.cells ≤ c.rows_above-to.result * c.args.line.cells = mul-le-mul_right c.args.line.cells (omega (arith, more)) in omega (arith, m, c.loop-k.invariant.most, c.add_run.ensures.most));
      begun = omega (arith, begun, more);
      shown = shown_more 32 160 c.args.top (c.args.place * b.pitch) b.h _ (λ v y. line_dot (layout_of b) c.args.place line v y) (λ v y. line_dot (sheet_rows (layout_of b)) 0 line v y)
          (λ v y. line_rows b.sheet.now b.w b.h b.wide b.rows b.pitch b.alignment c.args.place line v y) c.loop-k.k _ _ _ _ _ (shifted (to_z w64 (of_z w64 c.args.at)) (λ v. line_dot (sheet_rows (layout_of b)) 0 line v c.source_row-s.result)) c.loop-k.invariant.shown (omega (arith, begun, end)) (omega (arith, begun, end)) c.source_row-s.ensures to c.add_run.ensures.dots (λ x l. refl);
    }

pub add_run-requires : goal.add_run-requires
add_run-requires g c = grind (arith, row_alike, rows_more, c.loop-k.invariant.begun, c.rows_above-end.ensures, c.rows_above-to.ensures, c.source_row-s.ensures)

pub loop-k-smaller : goal.loop-k-smaller
loop-k-smaller g c = grind (arith, rows_more, c.loop-k.invariant.begun, c.rows_above-to.ensures)

pub returns-clause-dots : goal.returns-clause-dots
returns-clause-dots g c =
    let b = c.args.self.now in
    let line = (take c.args.line.cells (first (pieces c.args.line.text.now))) in
    rw (sym (to_z-of_z w64 c.args.at c.ranges.at))
    (shown_all 32 160 c.args.top (c.args.place * b.pitch) b.h _ (λ v y. line_dot (layout_of b) c.args.place line v y) (λ v y. line_dot (sheet_rows (layout_of b)) 0 line v y)
    (λ v y. line_rows b.sheet.now b.w b.h b.wide b.rows b.pitch b.alignment c.args.place line v y) c.loop-k.k _ _ (omega (arith, c.rows_above-end.ensures)) c.loop-k.invariant.shown)

pub returns-then-k-end-clause-dots : goal.returns-then-k-end-clause-dots
returns-then-k-end-clause-dots g c =
    let b = c.args.self.now in
    let line = (take c.args.line.cells (first (pieces c.args.line.text.now))) in
    rw (sym (to_z-of_z w64 c.args.at c.ranges.at))
    (shown_all 32 160 c.args.top (c.args.place * b.pitch) b.h _ (λ v y. line_dot (layout_of b) c.args.place line v y) (λ v y. line_dot (sheet_rows (layout_of b)) 0 line v y)
    (λ v y. line_rows b.sheet.now b.w b.h b.wide b.rows b.pitch b.alignment c.args.place line v y) c.rows_above-k.result _ _ (omega (arith, c.rows_above-end.ensures))
    (shown_none 32 160 c.args.top (c.args.place * b.pitch) b.h _ (λ v y. line_dot (layout_of b) c.args.place line v y) (λ v y. line_dot (sheet_rows (layout_of b)) 0 line v y)
    (λ v y. line_rows b.sheet.now b.w b.h b.wide b.rows b.pitch b.alignment c.args.place line v y) _ _ c.rows_above-k.ensures))

pub returns-clause-most : goal.returns-clause-most
returns-clause-most g c = let m : c.loop-k.k * c.args.line.cells ≤ 32 * c.args.line.cells = mul-le-mul_right c.args.line.cells c.loop-k.invariant.upto in omega (arith, m, c.loop-k.invariant.most)

pub overflow_add-above-in-loop-k : goal.overflow_add-above-in-loop-k
overflow_add-above-in-loop-k g c = omega (arith, mul-le-mul_right c.args.self.now.pitch c.requires.place, c.first_row.ensures)

pub overflow_add-top : goal.overflow_add-top
overflow_add-top g c = omega (arith, mul-le-mul_right c.args.self.now.pitch c.requires.place, c.rows_above-end.ensures)

pub overflow_add-s : goal.overflow_add-s
overflow_add-s g c = grind (arith, row_alike, c.source_row-s.ensures, c.rows_above-end.ensures)

pub overflow_cast-s : goal.overflow_cast-s
overflow_cast-s g c = grind (arith, row_alike, c.source_row-s.ensures, c.rows_above-end.ensures)

pub first_row-requires : goal.first_row-requires
first_row-requires g c = grind (arith, row_alike, c.source_row-s.ensures, c.rows_above-end.ensures)
