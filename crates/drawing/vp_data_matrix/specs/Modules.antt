-- The modules of a finished symbol (ISO/IEC 16022, 5.8 and 5.9).
use Rattle.std.specs.Prelude.{ℕ, ◌+◌, ◌-◌, ◌*◌, ◌/◌, ◌%◌, ◌==◌, ◌&&◌, ◌||◌, not, Bool, true, false, length, List, [], ◌∷◌, slice_index, if◌then◌else◌}
use Rattle.std.specs.List.{list_any}
use Rattle.std.specs.Int.{bit_at}
use Rattle.vp_data_matrix.specs.declared.size.Size.{Size}
use Rattle.vp_data_matrix.specs.declared.grid.Place.{Place}
use Rattle.vp_data_matrix.specs.declared.grid.Matrix.{Matrix}
use Rattle.vp_data_matrix.specs.Sizes.{matrix_rows, matrix_columns}
use Rattle.vp_data_matrix.specs.Placement.{is_at, places}

-- bit k of codewords, the highest bit of each first; zeros follow
unfoldable pub data_bit : List ℕ → ℕ → Bool
data_bit codewords k = bit_at (slice_index codewords (k / 8)) (7 - k % 8) == 1

-- the bit on a module of the matrix, by where the bits are laid: the newest one's
unfoldable pub bit_on : List ℕ → List Place → ℕ → ℕ → Bool
bit_on codewords [] i j = false
bit_on codewords (p ∷ before) i j = if is_at i j p then data_bit codewords (length before)
    else bit_on codewords before i j

-- the two dark modules of a lower right corner that no bit stands on
abbrev pub fixed_place : Matrix → ℕ → ℕ → Bool
fixed_place m i j = i == m.rows - 1 && j == m.columns - 1 || i == m.rows - 2 && j == m.columns - 2

abbrev pub fixed : Matrix → List Place → ℕ → ℕ → Bool
fixed m laid i j = not (list_any (is_at (m.rows - 1) (m.columns - 1)) laid) && fixed_place m i j

-- a module of the matrix
unfoldable pub matrix_module : Matrix → List ℕ → ℕ → ℕ → Bool
matrix_module m codewords i j = fixed m (places m) i j || bit_on codewords (places m) i j

abbrev pub matrix_of : Size → Matrix
matrix_of s = record { rows = matrix_rows s; columns = matrix_columns s }

-- a module of the symbol: around each data region two dark sides, at the left and at the bottom, and two of
-- alternate modules
unfoldable pub symbol_module : Size → (ℕ → ℕ → Bool) → ℕ → ℕ → Bool
symbol_module s data_at row column =
    let y = row % (s.region_rows + 2) in
    let x = column % (s.region_columns + 2) in
    if x == 0 || y == s.region_rows + 1 then true
    else if y == 0 then x % 2 == 0
    else if x == s.region_columns + 1 then y % 2 == 1
    else data_at (row / (s.region_rows + 2) * s.region_rows + (y - 1))
    (column / (s.region_columns + 2) * s.region_columns + (x - 1))
