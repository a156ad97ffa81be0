-- The form of a sheet's header, as netpbm has it for raw PBM.
use Rattle.std.specs.Prelude.{◌≡◌, ℕ, ◌<◌, true, false, List, [], ◌∷◌, ◌++◌, length, slice_index}
use Rattle.std.specs.Str.Parse.{digits_value}
use Rattle.vp_glyph.specs.Headers.{white, ends_line, digit}

-- the text of a comment, without an end of a line
abbrev pub Comment : List ℕ → Type 0
Comment text = (k : ℕ) → k < length text → ends_line (slice_index text k) ≡ false

-- white bytes, and comments from # up to and with the next CR or LF
pub data Gap : List ℕ → Type 0 where
  none : Gap []
  byte : (b : ℕ) (rest : List ℕ) → white b ≡ true → Gap rest → Gap (b ∷ rest)
  comment : (text : List ℕ) (b : ℕ) (rest : List ℕ) → Comment text → ends_line b ≡ true → Gap rest
      → Gap (35 ∷ (text ++ b ∷ rest))

-- one or more digits
abbrev pub Digits : List ℕ → Type 0
Digits text = (0 < length text) × ((k : ℕ) → k < length text → digit (slice_index text k) ≡ true)

-- a gap, the width, a gap, the height and one white byte stand before the raster
pub record IsHeader (text : List ℕ) (width height : ℕ) (raster : List ℕ) : Type 0 where
  pub before_width : List ℕ
  pub width_digits : List ℕ
  pub before_height : List ℕ
  pub height_digits : List ℕ
  pub last : ℕ
  pub parts_are : text ≡ before_width ++ (width_digits ++ (before_height ++ (height_digits ++ last ∷ raster)))
  pub first_gap : (0 < length before_width) × Gap before_width
  pub first_number : Digits width_digits
  pub second_gap : (0 < length before_height) × Gap before_height
  pub second_number : Digits height_digits
  pub last_white : white last ≡ true
  pub width_is : width ≡ digits_value 10 width_digits
  pub height_is : height ≡ digits_value 10 height_digits
