-- What the code keeps of a symbol before its mask is chosen.
use Rattle.std.specs.Prelude.{◌≡◌, ℕ, ◌<◌, ◌≤◌, ◌&&◌, not, List}
use Rattle.vp_qr.specs.declared.symbol.Grid.{Grid}
use Rattle.vp_qr.specs.Places.{size, reserved}
use Rattle.vp_qr.specs.Walk.{dark, data_bit, number_of}
use Rattle.vp_qr.specs.Codes.{version_code}
use Rattle.vp_qr.specs.Symbol.{format_here, pattern_dark}

-- the places of data, patterns and format are those of the version
pub record IsGrid (grid : Grid) : Type 0 where
  pub low : 1 ≤ grid.version
  pub high : grid.version ≤ 10
  pub free_is : (i j : ℕ) → i < size grid.version → j < size grid.version
      → dark grid.free i j ≡ not (reserved grid.version i j)
  pub patterns_are : (i j : ℕ) → i < size grid.version → j < size grid.version
      → dark grid.patterns i j ≡ pattern_dark grid.version (version_code grid.version) i j
  pub format_is : (i j : ℕ) → i < size grid.version → j < size grid.version
      → dark grid.format i j ≡ format_here grid.version i j

-- and its data modules are those of codewords
pub record IsGridOf (codewords : List ℕ) (grid : Grid) : Type 0 where
  pub is : IsGrid grid
  pub unmasked_is : (i j : ℕ) → i < size grid.version → j < size grid.version
      → dark grid.unmasked i j ≡ (not (reserved grid.version i j)
      && data_bit codewords (number_of grid.version i j))
