-- A symbol in hand: how many columns and rows of modules it has, and which of them are dark.
use Rattle.std.specs.Prelude.{ℕ, ◌&&◌, nat_lt, Bool}
use Rattle.vp_data_matrix.specs.Encoding.{dark}
use Rattle.vp_aztec.specs.Places.{side}
use Rattle.vp_aztec.specs.Modules.{module_of as aztec_module}
use Rattle.vp_pdf417.specs.Modules.{across, module_of as pdf417_module}
use Rattle.vp_matrix.specs.declared.matrix.Matrix.{Matrix}
use Rattle.vp_matrix.specs.declared.matrix.Matrix.TheVariants.{DataMatrix, Aztec, Pdf417}

-- modules in a row
unfoldable pub columns : Matrix → ℕ
columns (DataMatrix s) = s.size.columns
columns (Aztec s) = side s.size
columns (Pdf417 s) = across s.size

-- rows of modules
unfoldable pub rows : Matrix → ℕ
rows (DataMatrix s) = s.size.rows
rows (Aztec s) = side s.size
rows (Pdf417 s) = s.size.rows

-- a module inside is dark
abbrev pub module_at : Matrix → ℕ → ℕ → Bool
module_at (DataMatrix s) row column = dark s row column
module_at (Aztec s) row column = aztec_module s.size s.words s.mode column row
module_at (Pdf417 s) row column = pdf417_module s.size s.words row column

-- the module in a row and a column is dark: none is outside
unfoldable pub is_dark : Matrix → ℕ → ℕ → Bool
is_dark m row column = nat_lt row (rows m) && (nat_lt column (columns m) && module_at m row column)
