-- Glyph sheets.
use Rattle.std.specs.Prelude.{◌≡◌, ℕ, ◌<◌, ◌+◌, ◌*◌, ◌/◌, ◌%◌, length, slice_index, Bool, false, nat_lt, ◌&&◌, List, Option, None, Some}
use Rattle.vp_dots.specs.Dots.{dot}
use Rattle.vp_dots.specs.Words.{word_dot}

-- a sheet: the width and height of a cell, and the bytes of its rows, the top one first
pub record Glyphs : Type 0 where
  pub wide : ℕ
  pub high : ℕ
  pub raster : List ℕ

-- the sheets of the two fonts, as far as there are any
pub record Sheets : Type 0 where
  pub a : Option Glyphs
  pub b : Option Glyphs

-- dot (x, y) of a sheet, whose rows have 16 cells
abbrev pub raster_dot : Glyphs → ℕ → ℕ → Bool
raster_dot sheet x y = dot sheet.raster (16 * sheet.wide * y + x)

-- dot (x, y) of cell c, which stands in column c mod 16 of row c div 16, false outside
unfoldable pub glyph_dot : Glyphs → ℕ → ℕ → ℕ → Bool
glyph_dot sheet c x y = nat_lt x sheet.wide && nat_lt y sheet.high
    && raster_dot sheet (sheet.wide * (c % 16) + x) (sheet.high * (c / 16) + y)

-- the same of a sheet that may be missing, which is white
abbrev pub sheet_dot : Option Glyphs → ℕ → ℕ → ℕ → Bool
sheet_dot None c x y = false
sheet_dot (Some sheet) c x y = glyph_dot sheet c x y

-- dot (x, y) of sheet A's cell c drawn w by h: that at the same part of the width and height of a cell of
-- 12 by 24
abbrev pub scaled_dot : Option Glyphs → ℕ → ℕ → ℕ → ℕ → ℕ → Bool
scaled_dot sheet c w h x y = sheet_dot sheet c (x * 12 / w) (y * 24 / h)

-- the rows of all cells as words, those of cell 0 first
pub record IsCut (sheet : Glyphs) (rows : List ℕ) : Type 0 where
  pub count : length rows ≡ 256 * sheet.high
  pub dots_are : (i x : ℕ) → i < 256 * sheet.high
      → word_dot (slice_index rows i) x ≡ glyph_dot sheet (i / sheet.high) x (i % sheet.high)
