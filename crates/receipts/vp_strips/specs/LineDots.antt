-- The dots of a line.
use Rattle.std.specs.Prelude.{◌≡◌, ◌<◌, ℕ, ◌-◌, ◌≤◌, nat_le, Bool, true, false, ◌&&◌, ◌||◌, List, [], ◌∷◌, slice_index_or, length}
use Rattle.vp_page.specs.declared.line.TheConstants.{LINE_BYTES, LINE_DOTS}
use Rattle.vp_receipt_settings.specs.declared.text.TheConstants.{LINE_ROWS}
use Rattle.vp_dots.specs.Dots.{dot}
use Rattle.vp_receipt_settings.specs.Line.{Placed, is_open}

-- ink `width` dots wide and `height` rows high that is put at position `at`
abbrev pub ink_placed : ℕ → ℕ → ℕ → (ℕ → ℕ → Bool) → Placed
ink_placed at width height dots =
    record { at = at; image = record { width = width; height = height; is_black = dots } }

-- whether the item blackens dot (x, y) of a line `high` rows high: the items share their bottom row
abbrev pub item_dot : Placed → ℕ → ℕ → ℕ → Bool
item_dot placed high x y =
    nat_le placed.at x && nat_le (high - placed.image.height) y
    && placed.image.is_black (x - placed.at) (y - (high - placed.image.height))

-- whether an item of the line does
abbrev pub any_dot : List Placed → ℕ → ℕ → ℕ → Bool
any_dot [] high x y = false
any_dot (placed ∷ rest) high x y = item_dot placed high x y || any_dot rest high x y

-- a bitmap has the dots of a line, on its lowest rows: those of that line if it were as high as the bitmap
pub record HasDots (line : List Placed) (bitmap : List (List ℕ)) : Type 0 where
  pub rows_are : (y : ℕ) → y < LINE_ROWS → length (slice_index_or bitmap y []) ≡ LINE_BYTES
  pub dots_are : (x y : ℕ) → x < LINE_DOTS → y < LINE_ROWS →
      dot (slice_index_or bitmap y []) x ≡ any_dot line LINE_ROWS x y

-- rows are white but for those of the lowest `used` ones of which it isn't told that they are the same as the
-- one above
pub record IsClear (used : ℕ) (same : List Bool) (rows : List (List ℕ)) : Type 0 where
  pub few : used ≤ LINE_ROWS
  pub rows_are : (y : ℕ) → y < LINE_ROWS → length (slice_index_or rows y []) ≡ LINE_BYTES
  pub above : (x y : ℕ) → x < LINE_DOTS → y < LINE_ROWS - used → dot (slice_index_or rows y []) x ≡ false
  pub told : (x y : ℕ) → x < LINE_DOTS → y < LINE_ROWS → slice_index_or same y false ≡ true →
      dot (slice_index_or rows y []) x ≡ false

-- it has them while the line is open
abbrev pub HasOpen : List Placed → List (List ℕ) → Type 0
HasOpen line bitmap = is_open line ≡ true → HasDots line bitmap
