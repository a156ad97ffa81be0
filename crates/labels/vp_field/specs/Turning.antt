-- Boxes that are turned clockwise by quarters (ZPL II, ^FW: N, R, I, B).
use Rattle.std.specs.Prelude.{◌≡◌, ℕ, ℤ, pos, ◌-ℤ◌, Bool, true, ◌↔◌}
use Rattle.vp_zpl.specs.declared.item.Orientation.{Orientation}
use Rattle.vp_zpl.specs.declared.item.Orientation.TheVariants.{Normal, Rotated, Inverted, BottomUp}
use Rattle.vp_field.specs.Places.{ink_at}

-- the column on which dot (u, v) of a box of w by h dots falls
abbrev pub falls_x : Orientation → ℤ → ℤ → ℤ → ℤ → ℤ
falls_x Normal w h u v = u
falls_x Rotated w h u v = h -ℤ pos 1 -ℤ v
falls_x Inverted w h u v = w -ℤ pos 1 -ℤ u
falls_x BottomUp w h u v = v

-- the row on which it falls
abbrev pub falls_y : Orientation → ℤ → ℤ → ℤ → ℤ → ℤ
falls_y Normal w h u v = v
falls_y Rotated w h u v = u
falls_y Inverted w h u v = h -ℤ pos 1 -ℤ v
falls_y BottomUp w h u v = w -ℤ pos 1 -ℤ u

-- and back: the column of the dot that falls on place (x, y)
abbrev pub from_x : Orientation → ℤ → ℤ → ℤ → ℤ → ℤ
from_x Normal w h x y = x
from_x Rotated w h x y = y
from_x Inverted w h x y = w -ℤ pos 1 -ℤ x
from_x BottomUp w h x y = w -ℤ pos 1 -ℤ y

-- and its row
abbrev pub from_y : Orientation → ℤ → ℤ → ℤ → ℤ → ℤ
from_y Normal w h x y = y
from_y Rotated w h x y = h -ℤ pos 1 -ℤ x
from_y Inverted w h x y = h -ℤ pos 1 -ℤ y
from_y BottomUp w h x y = x

-- the ink of a box of w by h, turned
abbrev pub turned : Orientation → ℕ → ℕ → (ℕ → ℕ → Bool) → ℤ → ℤ → Bool
turned o w h ink x y = ink_at ink (from_x o (pos w) (pos h) x y) (from_y o (pos w) (pos h) x y)

abbrev pub turned_height : Orientation → ℕ → ℕ → ℕ
turned_height Normal w h = h
turned_height Rotated w h = w
turned_height Inverted w h = h
turned_height BottomUp w h = w

-- a place of the turned box has ink exactly where a dot with ink falls on it
abbrev pub DotsFall : Type 0
DotsFall = (o : Orientation) (w h : ℕ) (ink : ℕ → ℕ → Bool) (x y : ℤ) →
    (turned o w h ink x y ≡ true)
    ↔ ((u : ℕ) × (v : ℕ) × (ink u v ≡ true) × (x ≡ falls_x o (pos w) (pos h) (pos u) (pos v)) × (y
    ≡ falls_y o (pos w) (pos h) (pos u) (pos v)))
