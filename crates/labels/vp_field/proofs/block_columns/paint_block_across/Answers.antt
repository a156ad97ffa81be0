use Rattle.std.proofs.Common.{◌+◌, ◌-◌, ◌*◌, ◌/◌, ◌∙◌, arith, sym}
use Rattle.std.proofs.lemmas.Bool.{true≢false}
use Rattle.vp_glyph.proofs.Overlaid.{zero_at}
use Rattle.vp_field.specs.Axes.{read_at}
use Rattle.vp_field.proofs.Handing.{cut_dots}
use Rattle.vp_field.proofs.OnLabel.{shown_none, shown_rows, shown_same}
use Rattle.vp_field.proofs.Windowed.{shown_white, shown_ordered, read_within}
use Rattle.vp_field.proofs.block_columns.paint_block_across.Goals as goal

pub draw_columns-walked-requires-clause-white : goal.draw_columns-walked-requires-clause-white
draw_columns-walked-requires-clause-white g c = λ i. zero_at 1280 i

pub returns-then-are_white-clause-dots : goal.returns-then-are_white-clause-dots
returns-then-are_white-clause-dots g c =
    let l = c.args.lying in
    let d = c.draw_columns-walked in
    shown_none c.args.columns c.args.op _ c.args.band.now
    (shown_white l.columns l.rows _ c.args.columns d.result.0.from d.result.0.to d.new.fronts d.ensures.only d.ensures.drawn
    (λ i x h m. c.are_white.ensures c.if-are_white.true i x (omega (arith, h, d.ensures.to, c.requires.most))))

pub returns-then-are_white-clause-least : goal.returns-then-are_white-clause-least
returns-then-are_white-clause-least g c = λ x k h m e.
    let l = c.args.lying in
    let d = c.draw_columns-walked in
    absurd (true≢false (sym e ∙ shown_white l.columns l.rows _ c.args.columns d.result.0.from d.result.0.to d.new.fronts d.ensures.only d.ensures.drawn
    (λ i x h m. c.are_white.ensures c.if-are_white.true i x (omega (arith, h, d.ensures.to, c.requires.most))) x k h m))

pub returns-clause-dots : goal.returns-clause-dots
returns-clause-dots g c =
    let l = c.args.lying in
    let d = c.draw_columns-walked in
    let many = d.result.0.to - d.result.0.from in
    shown_same c.args.columns c.args.op _ _ _ _ (λ x k h m.
    cut_dots d.result.0.from (64 * ((many + 63) / 64)) many c.in_order.new.fronts l.rows (omega arith) (omega (arith, c.in_order.array_long, d.ensures.to, c.requires.most)) c.in_order.ensures.white x k
    ∙ shown_ordered l.columns l.rows _ c.args.columns d.result.0.from d.result.0.to d.new.fronts d.ensures.only d.ensures.drawn c.in_order.new.fronts c.in_order.ensures.order c.in_order.ensures.white x k h m)
    (shown_rows c.args.columns c.args.op _ _ _ (rw (c.new-drawn.ensures.left, c.new-drawn.ensures.x) at c.paint_columns.ensures.dots))

pub returns-clause-least : goal.returns-clause-least
returns-clause-least g c = λ x k h m e.
    let l = c.args.lying in
    let d = c.draw_columns-walked in
    let many = d.result.0.to - d.result.0.from in
    let on = d.ensures.only x k h e in
    let within = read_within l.columns many (x - d.result.0.from) (omega (arith, on.0, on.1)) in
    let some = d.ensures.some (read_at l.columns many (x - d.result.0.from)) (read_at l.rows 32 k) (omega (arith, within, d.ensures.to, c.requires.most)) (read_within l.rows 32 k m)
    (sym (d.ensures.drawn x k on.0 on.1 m) ∙ e) in
    omega (arith, some, on.0, on.1, c.paint_columns.ensures.counted, c.new-drawn.ensures.from, c.new-drawn.ensures.end)
