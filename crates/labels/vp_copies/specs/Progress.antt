-- How far copies are put out, and what has to be ready for the next byte.
use Rattle.std.specs.Prelude.{◌≡◌, ℕ, ◌+◌, ◌-◌, ◌*◌, ◌/◌, ◌%◌, min, ◌<◌, ◌≤◌, Bool, false, List, [], slice_index_or}
use Rattle.vp_dots.specs.Dots.{dot}
use Rattle.vp_dots.specs.Images.{Image, row_bytes}
use Rattle.vp_output.specs.declared.place.Line.{Line}
use Rattle.vp_output.specs.declared.place.Line.TheVariants.{Head, Row}
use Rattle.vp_label_size.specs.declared.TheConstants.{BAND_ROWS}
use Rattle.vp_output.specs.Lines.{IsLineOf}
use Rattle.vp_copies.specs.Copies.{line_bytes, Place}

-- how wide and high the image is of which copies are put out, where the next byte is, and how many bands were
-- painted of its copy, or of the one before
pub record Progress : Type 0 where
  pub width : ℕ
  pub height : ℕ
  pub place : Place
  pub painted : ℕ

-- that image, with these dots
abbrev pub image_of : Progress → (ℕ → ℕ → Bool) → Image
image_of p dots = record { width = p.width; height = p.height; is_black = dots }

-- a byte of a line of an image `width` dots wide and `height` rows high is left
pub record IsPlaceOf (width height : ℕ) (p : Place) : Type 0 where
  pub line : IsLineOf height p.line
  pub byte : p.byte < line_bytes width height p.line

-- the rows of a band are those of the image from one on, as far as it has any: its dots, and white ones that
-- fill the last byte
pub record HasRows (i : Image) (first : ℕ) (band : List (List ℕ)) : Type 0 where
  pub dots_are : (x k : ℕ) → x < i.width → k < BAND_ROWS → first + k < i.height →
      dot (slice_index_or band k []) x ≡ i.is_black x (first + k)
  pub rest_is_white : (x k : ℕ) → i.width ≤ x → x < 8 * row_bytes i.width → k < BAND_ROWS →
      first + k < i.height →
      dot (slice_index_or band k []) x ≡ false

-- the band of the line is painted
abbrev pub IsPainted : Image → Line → List (List ℕ) → Type 0
IsPainted i Head band = Unit {0}
IsPainted i (Row y) band = HasRows i (BAND_ROWS * (y / BAND_ROWS)) band

-- the last of so many bands that were painted stands
abbrev pub StandsPainted : Image → ℕ → List (List ℕ) → Type 0
StandsPainted i painted band = (b : ℕ) → painted ≡ b + 1 → HasRows i (BAND_ROWS * b) band

-- no more bands were painted than there are, and at a row those before its own, which may be too
pub record HasPainted (p : Progress) : Type 0 where
  pub few : BAND_ROWS * p.painted < p.height + BAND_ROWS
  pub before : (y : ℕ) → p.place.line ≡ Row y → y / BAND_ROWS ≤ p.painted
  pub own : (y : ℕ) → p.place.line ≡ Row y → p.painted ≤ y / BAND_ROWS + 1

-- rows are put out, and the next one is of the same band, and not its first
pub record IsRowsOn (old new : Progress) : Type 0 where
  pub row : ℕ
  pub rows : ℕ
  pub from : old.place.line ≡ Row row
  pub value : new
      ≡ record old {
        place = record { copies = old.place.copies; line = Row (row + rows); byte = 0 };
        painted = row / BAND_ROWS + 1;
      }
  pub same_band : (row + rows) / BAND_ROWS ≡ row / BAND_ROWS
  pub inside : 0 < (row + rows) % BAND_ROWS

-- how many rows from row y on are put out together: those before the last of their band and of the image, as
-- far as there is room
abbrev pub rows_at_once : ℕ → ℕ → ℕ → ℕ → ℕ
rows_at_once width height y room =
    min (min (BAND_ROWS - 1 - y % BAND_ROWS) (height - 1 - y)) (room / row_bytes width)
