-- The rows of a raster, as its bytes come.
use Rattle.std.specs.Prelude.{ℕ, ◌+◌, ◌-◌, ◌*◌, ◌==◌, Bool, false, nat_lt, ◌&&◌, ◌||◌, if◌then◌else◌, List, [], ◌∷◌, ◌++◌, length, map, reverse, take, drop, Option, Some, None}
use Rattle.vp_esc.specs.declared.item.EscItem.{EscItem}
use Rattle.vp_esc.specs.declared.item.EscItem.TheVariants.{Raster, RasterByte}
use Rattle.vp_esc.specs.declared.item.RasterScale.{RasterScale}
use Rattle.vp_esc.specs.declared.item.RasterScale.TheVariants.{Normal, DoubleWidth, DoubleHeight, Quadruple}

-- GS v 0: a raster that has bytes to print
abbrev pub draws : Option RasterScale → ℕ → ℕ → Bool
draws None bytes rows = false
draws (Some scale) bytes rows = nat_lt 0 bytes && nat_lt 0 rows

-- how often a dot is drawn across
abbrev pub times_across : RasterScale → ℕ
times_across Normal = 1
times_across DoubleWidth = 2
times_across DoubleHeight = 1
times_across Quadruple = 2

-- and down
abbrev pub times_down : RasterScale → ℕ
times_down Normal = 1
times_down DoubleWidth = 1
times_down DoubleHeight = 2
times_down Quadruple = 2

abbrev pub scale_or : Option RasterScale → RasterScale
scale_or (Some scale) = scale
scale_or None = Normal

-- the scale of the raster whose bytes come
abbrev pub raster_scale : List EscItem → RasterScale
raster_scale [] = Normal
raster_scale (Raster scale bytes rows ∷ before) = scale_or scale.value
raster_scale (RasterByte byte ∷ before) = raster_scale before
raster_scale (_ ∷ before) = Normal

-- how many bytes a row of it has
abbrev pub raster_bytes : List EscItem → ℕ
raster_bytes [] = 0
raster_bytes (Raster scale bytes rows ∷ before) = bytes
raster_bytes (RasterByte byte ∷ before) = raster_bytes before
raster_bytes (_ ∷ before) = 0

-- the items with those of these bytes of a raster after them
abbrev pub bytes_after : List ℕ → List EscItem → List EscItem
bytes_after bytes before = reverse (map (λ b. RasterByte b) bytes) ++ before

-- a byte ends a row of `bytes` bytes, of which those of `row` have come
abbrev pub ends_row : ℕ → List ℕ → Bool
ends_row bytes row = length row + 1 == bytes

-- The rows of a raster, as they come.
abbrev mutual
  -- how many rows of it are not yet whole
  pub rows_to_come : List EscItem → ℕ
  rows_to_come [] = 0
  rows_to_come (Raster scale bytes rows ∷ before) = if draws scale.value bytes rows then rows else 0
  rows_to_come (RasterByte byte ∷ before) =
      if ends_row (raster_bytes before) (row_so_far before) then rows_to_come before - 1
      else rows_to_come before
  rows_to_come (_ ∷ before) = 0

  -- the bytes of the first of them, as far as they have come
  pub row_so_far : List EscItem → List ℕ
  row_so_far [] = []
  row_so_far (RasterByte byte ∷ before) =
      if ends_row (raster_bytes before) (row_so_far before) || (rows_to_come before == 0) then []
      else row_so_far before ++ byte ∷ []
  row_so_far (_ ∷ before) = []

-- the next byte ends a row
abbrev pub is_row_end : List EscItem → Bool
is_row_end before = ends_row (raster_bytes before) (row_so_far before) && nat_lt 0 (rows_to_come before)

-- how many bytes come before the one that ends the row
abbrev pub bytes_within_row : List EscItem → ℕ
bytes_within_row before =
    if rows_to_come before == 0 then 0 else raster_bytes before - length (row_so_far before) - 1

-- how many bytes of the raster have not come
abbrev pub bytes_to_come : List EscItem → ℕ
bytes_to_come before = rows_to_come before * raster_bytes before - length (row_so_far before)

-- row i of bytes of which `wide` make a row
abbrev pub row_at : List ℕ → ℕ → ℕ → List ℕ
row_at bytes wide i = take wide (drop (i * wide) bytes)
