-- A symbol as ink: each module a box of `wide` by `high` dots.
use Rattle.std.specs.Prelude.{◌≡◌, ℕ, ◌*◌, ◌/◌, ◌<◌, Bool, true}
use Rattle.std.proofs.Common.{arith}
use Rattle.std.proofs.Math.Nat.{mul_comm, div-lt_iff_lt-mul}
use Rattle.std.proofs.lemmas.Bool.{and_parts, ltb-true}
use Rattle.vp_matrix.specs.declared.matrix.Matrix.{Matrix}
use Rattle.vp_matrix.specs.Symbols.{columns, rows, is_dark}

-- dots in a row, and in a column
abbrev pub across : Matrix → ℕ → ℕ
across m wide = wide * columns m

abbrev pub down : Matrix → ℕ → ℕ
down m high = high * rows m

-- the dot in column x of line y has ink
abbrev pub ink_of : Matrix → ℕ → ℕ → ℕ → ℕ → Bool
ink_of m wide high x y = is_dark m (y / high) (x / wide)

-- there is none outside
pub no_ink_outside : (m : Matrix) (wide high : ℕ) → 0 < wide → 0 < high → (x y : ℕ)
    → ink_of m wide high x y ≡ true → (x < across m wide) × (y < down m high)
unfolding is_dark
no_ink_outside m wide high p q x y h =
    let parts = and_parts _ _ h in
    let row : y / high < rows m = ltb-true _ _ parts.0 in
    let column : x / wide < columns m = ltb-true _ _ (and_parts _ _ parts.1).0 in
    let x_inside = (div-lt_iff_lt-mul {k = wide} {x = x} {y = columns m} p).0 column in
    let y_inside = (div-lt_iff_lt-mul {k = high} {x = y} {y = rows m} q).0 row in
    (omega (arith, mul_comm wide (columns m), x_inside), omega (arith, mul_comm high (rows m), y_inside))
