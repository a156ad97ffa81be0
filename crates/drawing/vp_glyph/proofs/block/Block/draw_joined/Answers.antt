use Rattle.std.proofs.Common.{◌≤◌, ◌/◌, ◌+◌, ◌-◌, ◌*◌, ◌∙◌, min, ap, arith, refl, sym, w64}
use Rattle.std.proofs.Math.Nat.{mul-le-mul_right}
use Rattle.std.proofs.lemmas.Int.{to_z-of_z}
use Rattle.vp_glyph.specs.Blocks.{lines_dot, block_lines, line_pieces}
use Rattle.vp_dots.specs.Dots.{dot}
use Rattle.vp_glyph.specs.Layouts.{layout_of, sheet_rows}
use Rattle.vp_glyph.proofs.Gathered.{row_alike}
use Rattle.vp_glyph.proofs.Joining.{lines_rows}
use Rattle.vp_glyph.proofs.Sheeted.{rows_more, shown_none, shown_more, shown_all}
use Rattle.vp_glyph.proofs.block.Block.draw_joined.Goals as goal

pub loop-k-init : goal.loop-k-init
loop-k-init g c =
    let b = c.args.self.now in
    let line = (block_lines (b.wide / b.w) c.args.text.now) in
    record {
      upto = omega (arith, c.rows_above-k.ensures);
      counted = omega arith;
      most = omega arith;
      none = λ e. refl;
      begun = omega (arith, c.rows_above-k.ensures);
      shown = shown_none 32 160 c.args.top (c.args.place * b.pitch) b.h _ (λ v y. lines_dot (layout_of b) c.args.place line v y) (λ v y. lines_dot (sheet_rows (layout_of b)) 0 line v y)
          (λ v y. lines_rows b.sheet.now b.w b.h b.wide b.rows b.pitch b.alignment c.args.place (c.args.place * b.pitch) line v y c.requires.joined refl) _ _ c.rows_above-k.ensures;
    }

pub loop-k-preserved : goal.loop-k-preserved
loop-k-preserved g c =
    let b = c.args.self.now in
    let line = (block_lines (b.wide / b.w) c.args.text.now) in
    let begun = c.loop-k.invariant.begun in
    let end = c.rows_above-end.ensures in
    let to = c.rows_above-to.ensures ∙ ap (λ e. min (c.args.place * b.pitch + e - c.args.top) 32) c.first_row.ensures.row in
    let more = rows_more 32 c.args.top (c.args.place * b.pitch) b.h c.loop-k.k _ _ (omega (arith, end)) (omega (arith, begun, end)) (omega (arith, begun, end)) c.source_row-s.ensures to in
    record {
      upto = omega (arith, to);
      counted = omega (arith, c.loop-k.invariant.counted, c.joined_row.ensures.counted);
      most = (let m : (c.loop-k.k + 1) * (2 * line_pieces c.args.text.now) ≤ c.rows_above-to.result * (2 * line_pieces c.args.text.now) = mul-le-mul_right (2 * line_pieces c.args.text.now) (omega (arith, more)) in omega (arith, m, c.loop-k.invariant.most, c.joined_row.ensures.most));
      none = λ e. absurd (omega (arith, e, c.joined_row.ensures.some));
      begun = omega (arith, begun, more);
      shown = shown_more 32 160 c.args.top (c.args.place * b.pitch) b.h _ (λ v y. lines_dot (layout_of b) c.args.place line v y) (λ v y. lines_dot (sheet_rows (layout_of b)) 0 line v y)
          (λ v y. lines_rows b.sheet.now b.w b.h b.wide b.rows b.pitch b.alignment c.args.place (c.args.place * b.pitch) line v y c.requires.joined refl) c.loop-k.k _ _ _ _ _ (dot c.joined_row.result) c.loop-k.invariant.shown (omega (arith, begun, end)) (omega (arith, begun, end)) c.source_row-s.ensures to c.blacken.ensures c.joined_row.ensures.row;
    }

pub blacken-requires : goal.blacken-requires
blacken-requires g c = grind (arith, rows_more, c.loop-k.invariant.begun, c.rows_above-to.ensures)

pub loop-k-smaller : goal.loop-k-smaller
loop-k-smaller g c = grind (arith, rows_more, c.loop-k.invariant.begun, c.rows_above-to.ensures)

pub returns : goal.returns
returns g c =
    let b = c.args.self.now in
    let line = (block_lines (b.wide / b.w) c.args.text.now) in
    rw (sym (to_z-of_z w64 c.args.at c.ranges.at)) (record {
      dots = shown_all 32 160 c.args.top (c.args.place * b.pitch) b.h _ (λ v y. lines_dot (layout_of b) c.args.place line v y) (λ v y. lines_dot (sheet_rows (layout_of b)) 0 line v y)
          (λ v y. lines_rows b.sheet.now b.w b.h b.wide b.rows b.pitch b.alignment c.args.place (c.args.place * b.pitch) line v y c.requires.joined refl) c.loop-k.k _ _ (omega (arith, c.rows_above-end.ensures)) c.loop-k.invariant.shown;
      counted = c.loop-k.invariant.counted;
      none = c.loop-k.invariant.none;
      most = (let m : c.loop-k.k * (2 * line_pieces c.args.text.now) ≤ 32 * (2 * line_pieces c.args.text.now) = mul-le-mul_right (2 * line_pieces c.args.text.now) c.loop-k.invariant.upto in omega (arith, m, c.loop-k.invariant.most));
    })

pub overflow_add-s : goal.overflow_add-s
overflow_add-s g c = grind (arith, row_alike, c.source_row-s.ensures, c.rows_above-end.ensures)

pub overflow_cast-s : goal.overflow_cast-s
overflow_cast-s g c = grind (arith, row_alike, c.source_row-s.ensures, c.rows_above-end.ensures)

pub first_row-requires : goal.first_row-requires
first_row-requires g c = grind (arith, row_alike, c.source_row-s.ensures, c.rows_above-end.ensures)

pub joined_row-requires : goal.joined_row-requires
joined_row-requires g c = grind (arith, row_alike, c.source_row-s.ensures, c.rows_above-end.ensures)

pub overflow_add-above-in-loop-k : goal.overflow_add-above-in-loop-k
overflow_add-above-in-loop-k g c = omega (arith, mul-le-mul_right c.args.self.now.pitch c.requires.place, c.first_row.ensures)
