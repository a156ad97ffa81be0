-- Where a field stands on its label (ZPL II, ^FO and ^FT), counted from the home of ^LH.
use Rattle.std.specs.Prelude.{ℕ, ◌+◌, ℤ, pos, ◌-ℤ◌}
use Rattle.vp_zpl.specs.declared.item.Orientation.{Orientation}
use Rattle.vp_zpl.specs.declared.item.Orientation.TheVariants.{Normal, Rotated, Inverted, BottomUp}
use Rattle.vp_label_settings.specs.declared.settings.Home.{Home}
use Rattle.vp_label_settings.specs.declared.parts.Origin.{Origin}
use Rattle.vp_label_settings.specs.declared.parts.Origin.TheVariants.{UpperLeft, LowerLeft}

-- the leftmost column of the turned box, which is w by h before it is turned
abbrev pub left_of : Home → Origin → Orientation → ℕ → ℕ → ℤ
left_of home (UpperLeft x y) o w h = pos (home.x + x)
left_of home (LowerLeft x y) Normal w h = pos (home.x + x)
left_of home (LowerLeft x y) Rotated w h = pos (home.x + x)
left_of home (LowerLeft x y) Inverted w h = pos (home.x + x) -ℤ pos w
left_of home (LowerLeft x y) BottomUp w h = pos (home.x + x) -ℤ pos h

-- and its topmost row: ^FT gives the lower left corner of the box as it is read
abbrev pub top_of : Home → Origin → Orientation → ℕ → ℕ → ℤ
top_of home (UpperLeft x y) o w h = pos (home.y + y)
top_of home (LowerLeft x y) Normal w h = pos (home.y + y) -ℤ pos h
top_of home (LowerLeft x y) Rotated w h = pos (home.y + y)
top_of home (LowerLeft x y) Inverted w h = pos (home.y + y)
top_of home (LowerLeft x y) BottomUp w h = pos (home.y + y) -ℤ pos w
