-- What the code keeps of a matrix, bit by bit.
use Rattle.std.specs.Prelude.{◌≡◌, ℕ, ◌<◌, ◌≤◌, Bool, true, false, length, List, [], ◌∷◌, slice_index_or, if◌then◌else◌}
use Rattle.vp_data_matrix.specs.declared.grid.Place.{Place}
use Rattle.vp_data_matrix.specs.declared.grid.Matrix.{Matrix}
use Rattle.vp_data_matrix.specs.declared.grid.Grid.{Grid}
use Rattle.vp_data_matrix.specs.declared.grid.Cell.{Cell}
use Rattle.vp_data_matrix.specs.declared.grid.Cell.TheVariants.{Free, Light, Dark}
use Rattle.vp_data_matrix.specs.Placement.{is_at}
use Rattle.vp_data_matrix.specs.Modules.{data_bit}

-- a matrix of a size
pub record IsMatrix (m : Matrix) : Type 0 where
  pub rows_some : 6 ≤ m.rows
  pub rows : m.rows ≤ 132
  pub columns_some : 8 ≤ m.columns
  pub columns : m.columns ≤ 132

-- no bit stands on a module, or one that is set
abbrev pub is_free : Cell → Bool
is_free Free = true
is_free Light = false
is_free Dark = false

abbrev pub is_dark : Cell → Bool
is_dark Free = false
is_dark Light = false
is_dark Dark = true

-- the cell of bit k of codewords
abbrev pub bit_cell : List ℕ → ℕ → Cell
bit_cell codewords k = if data_bit codewords k then Dark else Light

-- what stands on a module when these bits are laid
abbrev pub cell_of : List ℕ → List Place → ℕ → ℕ → Cell
cell_of codewords [] i j = Free
cell_of codewords (p ∷ before) i j = if is_at i j p then bit_cell codewords (length before)
    else cell_of codewords before i j

-- these bits of codewords are laid, the newest first
pub record IsLaid (codewords : List ℕ) (laid : List Place) (grid : Grid) : Type 0 where
  pub count : grid.laid ≡ length laid
  pub cells_are : (i j : ℕ) → i < grid.matrix.rows → j < grid.matrix.columns
      → slice_index_or (slice_index_or grid.cells i []) j Free ≡ cell_of codewords laid i j
