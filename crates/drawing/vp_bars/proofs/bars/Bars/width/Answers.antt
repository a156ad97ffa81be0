use Rattle.std.proofs.Common.{◌≡◌, ap, arith}
use Rattle.vp_bars.specs.Widths.{bar_widths, widths_of, total}
use Rattle.vp_bars.specs.Symbols.{Linear}
use Rattle.vp_bars.proofs.Bounds.{narrow_bars, width_is, characters_are}
use Rattle.vp_bars.proofs.bars.Bars.width.Goals as goal

pub draw_bars-requires : goal.draw_bars-requires
draw_bars-requires c = grind (arith, narrow_bars)

pub characters_width-requires : goal.characters_width-requires
characters_width-requires c =
    let b = c.args.self.now in
    let few = narrow_bars b.symbology c.args.narrow c.args.wide b.values (omega (arith, c.ranges.narrow.fits)) (omega (arith, c.ranges.wide.fits)) c.strokes-strokes.ensures.few in
    let kind = ap (λ (l : Linear). l.symbology) c.self.view_is in
    let same = ap total (characters_are c.self.inside.symbology c.args.narrow c.args.wide b.values c.in-Code39.is) in
    let all : total (bar_widths b.symbology c.args.narrow c.args.wide b.values) ≡ total (widths_of b.symbology c.args.narrow c.args.wide b.values) = rw (← kind) same in
    rw (c.strokes-strokes.ensures.symbology, c.strokes-strokes.ensures.narrow, c.strokes-strokes.ensures.wide, c.strokes-strokes.ensures.values) (omega (arith, few, all))

pub returns-in_default-clause-width : goal.returns-in_default-clause-width
returns-in_default-clause-width c = grind (arith, width_is)

pub returns-in_default-clause-small : goal.returns-in_default-clause-small
returns-in_default-clause-small c = grind (arith, narrow_bars)

pub returns-in-Code39 : goal.returns-in-Code39
returns-in-Code39 c =
    let b = c.args.self.now in
    let few = narrow_bars b.symbology c.args.narrow c.args.wide b.values (omega (arith, c.ranges.narrow.fits)) (omega (arith, c.ranges.wide.fits)) c.strokes-strokes.ensures.few in
    let kind = ap (λ (l : Linear). l.symbology) c.self.view_is in
    let same = ap total (characters_are c.self.inside.symbology c.args.narrow c.args.wide b.values c.in-Code39.is) in
    let all : total (bar_widths b.symbology c.args.narrow c.args.wide b.values) ≡ total (widths_of b.symbology c.args.narrow c.args.wide b.values) = rw (← kind) same in
    let drawn = rw (c.strokes-strokes.ensures.symbology, c.strokes-strokes.ensures.narrow, c.strokes-strokes.ensures.wide, c.strokes-strokes.ensures.values) at c.characters_width.ensures in
    record {
      width = omega (arith, drawn, all, width_is b.symbology c.args.narrow c.args.wide b.values);
      small = omega (arith, few, all, drawn);
    }
