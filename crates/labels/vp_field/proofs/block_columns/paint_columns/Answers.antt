use Rattle.std.proofs.Common.{◌*◌, ltb, ◌&&◌, arith, sym, ap, ◌∙◌, length}
use Rattle.vp_dots.proofs.Heights.{rows_same}
use Rattle.vp_glyph.proofs.Overlaid.{zero_dots}
use Rattle.vp_label_size.specs.declared.TheConstants.{BAND_ROWS}
use Rattle.vp_field.proofs.Columns.{columns_more, columns_within}
use Rattle.vp_field.proofs.Handing.{columns_dot, plain_dots, span_dots, left_init, behind_init, left_next, fewer_next, behind_next, last_dot}
use Rattle.vp_field.proofs.block_columns.paint_columns.Goals as goal

pub plain_row-words-requires : goal.plain_row-words-requires
plain_row-words-requires g c = record { white = λ i. zero_dots 160 i }

pub loop-mixed-init : goal.loop-mixed-init
loop-mixed-init g c =
    let x = c.args.columns.x in
    let all = c.args.columns.left.now in
    let words = c.plain_row-words.result.0 in
    let left = c.plain_row-words.new.columns in
    let plain = c.plain_row-words.ensures in
    record {
      from = plain.from;
      end = plain.end;
      left = left_init x (64 * words) all c.plain_row-words.result.1 left.left.now left.x plain.mixed;
      painted = rows_same BAND_ROWS c.args.op _ _ _ _
          (λ d k h. plain_dots x words all c.plain_row-words.new.row c.args.rows plain.row d k h
          ∙ ap (λ n. ltb d n && columns_dot x all c.args.rows d k) (sym (behind_init x (64 * words) all c.plain_row-words.result.1 left.left.now left.x plain.mixed)))
          (rw c.place-x.ensures at c.paint_rows_alike.ensures);
    }

pub loop-mixed-smaller : goal.loop-mixed-smaller
loop-mixed-smaller g c =
    rw c.in-Some.is (fewer_next c.args.columns.x c.args.columns.left.now c.in-Some.left c.loop-mixed.rest (rw c.in-Some.is at c.loop-mixed.invariant.left)
    c.paint_two.new.rest c.next-mixed.new.self c.paint_two.ensures.rest c.next-mixed.result c.next-mixed.ensures.handed)

pub loop-mixed-preserved : goal.loop-mixed-preserved
loop-mixed-preserved g c =
    let x = c.args.columns.x in
    let all = c.args.columns.left.now in
    let m = c.in-Some.left in
    let left = c.loop-mixed.rest in
    let mid = c.paint_two.new.rest in
    let new = c.next-mixed.new.self in
    let old = rw c.in-Some.is at c.loop-mixed.invariant.left in
    let took = c.paint_two.ensures.rest in
    let handed = c.next-mixed.ensures.handed in
    record {
      from = c.next-mixed.ensures.from ∙ c.paint_two.ensures.from ∙ c.loop-mixed.invariant.from;
      end = c.next-mixed.ensures.end ∙ c.paint_two.ensures.end ∙ c.loop-mixed.invariant.end;
      left = left_next x all m left old mid new took c.next-mixed.result handed;
      painted = rows_same BAND_ROWS c.args.op _ _ _ _ (λ d k h. behind_next x all m left old mid new took c.next-mixed.result handed c.args.rows d k)
          (columns_more c.args.op _ m.x 128 _ _ _ (rw c.in-Some.is at c.loop-mixed.invariant.painted)
          (columns_within c.args.op _ _ m.x 128 _ _ (λ d k h l e o. last_dot x all m left old c.args.rows d k l) c.paint_two.ensures.painted));
    }

pub returns-clause-dots : goal.returns-clause-dots
returns-clause-dots g c = rows_same BAND_ROWS c.args.op _ _ _ _ (λ d k h. span_dots c.args.columns.x c.args.columns.left.now c.args.rows d k) (rw c.in_default.is at c.loop-mixed.invariant.painted)

pub returns-clause-counted : goal.returns-clause-counted
returns-clause-counted g c =
    let none = ap length (rw c.in_default.is at c.loop-mixed.invariant.left) in
    omega (arith, none, c.counted.ensures, c.loop-mixed.rest.all, c.loop-mixed.rest.each, c.loop-mixed.invariant.from, c.loop-mixed.invariant.end)
