-- The sizes of symbols (ISO/IEC 16022, table 7).
use Rattle.std.specs.Prelude.{◌≡◌, ℕ, zero, suc, ◌+◌, ◌*◌, ◌/◌, ◌==◌, ◌&&◌, ◌<◌, ◌≤◌, not, nat_le, Bool, List, [], ◌∷◌, Option, Some, None, slice_index_or, if◌then◌else◌}
use Rattle.vp_data_matrix.specs.declared.size.Size.{Size}
use Rattle.vp_data_matrix.specs.declared.size.Shape.{Shape}
use Rattle.vp_data_matrix.specs.declared.size.Shape.TheVariants.{Square, Rectangle, Exactly}

-- for each size, the 24 squares first: rows and columns of the symbol; rows and columns of a data region;
-- data codewords; check codewords of each block; blocks
abbrev pub table : List (ℕ × ℕ × ℕ × ℕ × ℕ × ℕ × ℕ)
table = (10, 10, 8, 8, 3, 5, 1) ∷ (12, 12, 10, 10, 5, 7, 1) ∷ (14, 14, 12, 12, 8, 10, 1)
    ∷ (16, 16, 14, 14, 12, 12, 1) ∷ (18, 18, 16, 16, 18, 14, 1) ∷ (20, 20, 18, 18, 22, 18, 1)
    ∷ (22, 22, 20, 20, 30, 20, 1) ∷ (24, 24, 22, 22, 36, 24, 1) ∷ (26, 26, 24, 24, 44, 28, 1)
    ∷ (32, 32, 14, 14, 62, 36, 1) ∷ (36, 36, 16, 16, 86, 42, 1) ∷ (40, 40, 18, 18, 114, 48, 1)
    ∷ (44, 44, 20, 20, 144, 56, 1) ∷ (48, 48, 22, 22, 174, 68, 1) ∷ (52, 52, 24, 24, 204, 42, 2)
    ∷ (64, 64, 14, 14, 280, 56, 2) ∷ (72, 72, 16, 16, 368, 36, 4) ∷ (80, 80, 18, 18, 456, 48, 4)
    ∷ (88, 88, 20, 20, 576, 56, 4) ∷ (96, 96, 22, 22, 696, 68, 4) ∷ (104, 104, 24, 24, 816, 56, 6)
    ∷ (120, 120, 18, 18, 1050, 68, 6) ∷ (132, 132, 20, 20, 1304, 62, 8)
    ∷ (144, 144, 22, 22, 1558, 62, 10) ∷ (8, 18, 6, 16, 5, 7, 1) ∷ (8, 32, 6, 14, 10, 11, 1)
    ∷ (12, 26, 10, 24, 16, 14, 1) ∷ (12, 36, 10, 16, 22, 18, 1) ∷ (16, 36, 14, 16, 32, 24, 1)
    ∷ (16, 48, 14, 22, 49, 28, 1) ∷ []

-- size number k
abbrev pub size_in : List (ℕ × ℕ × ℕ × ℕ × ℕ × ℕ × ℕ) → ℕ → Size
size_in sizes k =
    let r = slice_index_or sizes k (0, 0, 0, 0, 0, 0, 0) in
    record {
      rows = r.0;
      columns = r.1;
      region_rows = r.2;
      region_columns = r.3;
      words = r.4;
      check = r.5;
      blocks = r.6;
    }

unfoldable pub size_at : ℕ → Size
size_at k = size_in table k

-- the modules of all data regions together: the mapping matrix
abbrev pub matrix_rows : Size → ℕ
matrix_rows s = s.rows / (s.region_rows + 2) * s.region_rows

abbrev pub matrix_columns : Size → ℕ
matrix_columns s = s.columns / (s.region_columns + 2) * s.region_columns

-- how many codewords there are in all
abbrev pub total : Size → ℕ
total s = s.words + s.check * s.blocks

-- the sizes of a shape
abbrev pub has_shape : Shape → Size → Bool
has_shape Square s = s.rows == s.columns
has_shape Rectangle s = not (s.rows == s.columns)
has_shape (Exactly rows columns) s = s.rows == rows && s.columns == columns

-- a size of a shape has room for so many data codewords
unfoldable pub fits : Shape → ℕ → ℕ → Bool
fits shape needed k = has_shape shape (size_at k) && nat_le needed (size_at k).words

-- the first of n numbers from k on that passes a test
abbrev pub first_from : (ℕ → Bool) → ℕ → ℕ → Option ℕ
first_from p k zero = None
first_from p k (suc n) = if p k then Some k else first_from p (k + 1) n

-- the smallest size that fits, by its number
unfoldable pub smallest : Shape → ℕ → Option ℕ
smallest shape needed = first_from (fits shape needed) 0 30

-- a size's numbers are within these
pub record IsSound (s : Size) : Type 0 where
  pub rows : s.rows ≤ 144
  pub columns : s.columns ≤ 144
  pub rows_whole : s.rows ≡ s.rows / (s.region_rows + 2) * (s.region_rows + 2)
  pub columns_whole : s.columns ≡ s.columns / (s.region_columns + 2) * (s.region_columns + 2)
  pub region_rows : s.region_rows ≤ 24
  pub region_columns : s.region_columns ≤ 24
  pub matrix_rows_some : 6 ≤ matrix_rows s
  pub matrix_rows : matrix_rows s ≤ 132
  pub matrix_columns_some : 8 ≤ matrix_columns s
  pub matrix_columns : matrix_columns s ≤ 132
  pub words : s.words ≤ 1558
  pub check_some : 0 < s.check
  pub check : s.check ≤ 68
  pub blocks_some : 0 < s.blocks
  pub blocks : s.blocks ≤ 10
  pub block_words : s.words ≤ 175 * s.blocks
  pub all : total s ≤ 2178
