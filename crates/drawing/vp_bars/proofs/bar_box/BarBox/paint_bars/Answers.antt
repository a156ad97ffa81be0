use Rattle.std.proofs.Common.{◌-◌, ◌/◌, length, ap, ◌∙◌, sym, arith, w64}
use Rattle.std.proofs.lemmas.Int.{to_z-of_z}
use Rattle.vp_bars.specs.InBox.{boxed}
use Rattle.vp_bars.specs.Boxes.{Boxed, box_width}
use Rattle.vp_bars.proofs.BoxRows.{bars_painted, bars_seen}
use Rattle.vp_bars.proofs.Pieces.{handed_few}
use Rattle.vp_bars.proofs.bar_box.BarBox.paint_bars.Goals as goal

pub returns-clause-painted : goal.returns-clause-painted
returns-clause-painted g c =
    let s = c.args.self.now in
    let b : Boxed = boxed s in
    let left = ap (λ w. (w - s.bars_width) / 2) c.width.ensures.width ∙ ap (λ w. (box_width b - w) / 2) s.bars_are in
    rw (sym (to_z-of_z w64 c.args.at c.ranges.at)) (bars_painted _ _ b _ _ _ _ _ _ c.strokes-strokes.ensures.symbology c.strokes-strokes.ensures.values left (rw (c.strokes-strokes.ensures.narrow, c.strokes-strokes.ensures.wide) at c.draw_bars-characters.ensures.strokes))

pub returns-clause-most : goal.returns-clause-most
returns-clause-most g c = handed_few _ _ _ _ _ c.draw_bars-characters.ensures.pieces

pub returns-clause-few : goal.returns-clause-few
returns-clause-few g c = omega (arith, c.draw_bars-characters.ensures.few, ap length c.strokes-strokes.ensures.values, c.strokes-strokes.ensures.few)

pub returns-clause-some : goal.returns-clause-some
returns-clause-some g c =
    let s = c.args.self.now in
    let b : Boxed = boxed s in
    let left = ap (λ w. (w - s.bars_width) / 2) c.width.ensures.width ∙ ap (λ w. (box_width b - w) / 2) s.bars_are in
    let ends = rw (c.strokes-strokes.ensures.narrow, c.strokes-strokes.ensures.wide) at c.draw_bars-characters.ensures.strokes.ends in
    rw (sym (to_z-of_z w64 c.args.at c.ranges.at)) (λ d l e. bars_seen _ b _ _ _ _ _ _ d c.strokes-strokes.ensures.symbology c.strokes-strokes.ensures.values left ends c.draw_bars-characters.ensures.pieces l e)
