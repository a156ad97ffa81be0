-- Two-dimensional symbols whose modules are stored (ZPL II, ^BX, ^B7, ^BO).
use Rattle.std.specs.Prelude.{◌≡◌, ℕ, ◌+◌, ◌*◌, ◌/◌, ◌<◌, Bool, true, ◌&&◌, nat_lt, List}
use Rattle.std.proofs.Common.{arith}
use Rattle.std.proofs.Math.Nat.{mul_comm, div-lt_iff_lt-mul}
use Rattle.std.proofs.lemmas.Bool.{and_parts, ltb-true}
use Rattle.vp_dots.specs.Dots.{dot}
use Rattle.vp_dots.specs.Images.{row_bytes}
use Rattle.vp_format.specs.declared.field.MatrixSymbol.{MatrixSymbol}

-- the module in a row and a column is dark, where these bytes are those of the rows: none is outside
unfoldable pub is_dark : MatrixSymbol → List ℕ → ℕ → ℕ → Bool
is_dark m bytes row column = nat_lt row m.rows
    && (nat_lt column m.columns && dot bytes (8 * row_bytes m.columns * row + column))

-- the dots of a row, and of a column
abbrev pub matrix_width : MatrixSymbol → ℕ
matrix_width m = m.wide * m.columns

abbrev pub matrix_height : MatrixSymbol → ℕ
matrix_height m = m.high * m.rows

-- a dot has ink where the module that it lies in is dark
abbrev pub matrix_dot : MatrixSymbol → List ℕ → ℕ → ℕ → Bool
matrix_dot m bytes x y = nat_lt x (matrix_width m) && nat_lt y (matrix_height m)
    && is_dark m bytes (y / m.high) (x / m.wide)

-- the same where modules have some dots
abbrev pub module_dot : MatrixSymbol → List ℕ → ℕ → ℕ → Bool
module_dot m bytes x y = is_dark m bytes (y / m.high) (x / m.wide)

-- there is none outside
pub module_inside : (m : MatrixSymbol) (bytes : List ℕ) → 0 < m.wide → 0 < m.high → (x y : ℕ)
    → module_dot m bytes x y ≡ true → (x < matrix_width m) × (y < matrix_height m)
unfolding is_dark
module_inside m bytes p q x y h =
    let parts = and_parts _ _ h in
    let row : y / m.high < m.rows = ltb-true _ _ parts.0 in
    let column : x / m.wide < m.columns = ltb-true _ _ (and_parts _ _ parts.1).0 in
    let x_inside = (div-lt_iff_lt-mul {k = m.wide} {x = x} {y = m.columns} p).0 column in
    let y_inside = (div-lt_iff_lt-mul {k = m.high} {x = y} {y = m.rows} q).0 row in
    (omega (arith, mul_comm m.wide m.columns, x_inside), omega (arith, mul_comm m.high m.rows, y_inside))
