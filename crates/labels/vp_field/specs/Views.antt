-- How a label is put out (ZPL II, ^PO and ^PM).
use Rattle.std.specs.Prelude.{ℕ, ℤ, pos, ◌-ℤ◌, Bool, if◌then◌else◌, min}
use Rattle.vp_field.specs.declared.view.View.{View}
use Rattle.vp_label_size.specs.declared.TheConstants.{WIDEST}

-- a place of n, counted from the last one where it is counted back
abbrev pub counted_back : Bool → ℕ → ℤ → ℤ
counted_back back n p = if back then pos n -ℤ pos 1 -ℤ p else p

-- the place of the label that comes to column x and row y: ^PM mirrors left and right, ^PO I turns by 180
-- degrees
abbrev pub seen_x : View → ℤ → ℤ
seen_x view x = counted_back view.inverted view.width (counted_back view.mirrored view.width x)

abbrev pub seen_y : View → ℤ → ℤ
seen_y view y = counted_back view.inverted view.height y

-- how many columns of the label a band has
abbrev pub columns_of : View → ℕ
columns_of view = min view.width WIDEST
