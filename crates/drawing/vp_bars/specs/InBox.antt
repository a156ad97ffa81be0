-- What stands in a box that is painted.
use Rattle.vp_bars.specs.declared.bar_box.BarBox.{BarBox}
use Rattle.vp_bars.specs.Boxes.{Boxed}

-- the box without the widths that are kept with it
abbrev pub boxed : {A : _} → BarBox A → Boxed
boxed b =
    record {
      bars = b.bars.now;
      narrow = b.narrow;
      wide = b.wide;
      height = b.height;
      sheets = b.sheets.now;
      font = b.font;
      place = b.place;
    }
