-- Which rows of a cell have ink.
use Rattle.std.specs.Prelude.{◌≡◌, ℕ, ◌*◌, ◌<◌, ◌≤◌, List, length, slice_index, slice_index_or, take, drop, nat_le, nat_lt, ◌&&◌, false}
use Rattle.vp_glyph.specs.declared.sheet.Inked.{Inked}

-- all rows are white but those from the first on to the last
pub record IsInked (rows : List ℕ) (inked : Inked) : Type 0 where
  pub order : inked.first ≤ inked.below
  pub inside : inked.below ≤ length rows
  pub white : (y : ℕ) → (nat_le inked.first y && nat_lt y inked.below) ≡ false → slice_index rows y ≡ 0

-- which rows of each cell have ink, of cells `high` rows high that stand one after the other
pub record AreInked (high : ℕ) (rows : List ℕ) (cells : List Inked) : Type 0 where
  pub count : length cells ≡ 256
  pub each : (c : ℕ) → c < 256 →
      IsInked (take high (drop (high * c) rows)) (slice_index_or cells c (record { first = 0; below = 0 }))
