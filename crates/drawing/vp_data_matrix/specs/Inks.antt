-- A symbol as ink: each module a square of dots.
use Rattle.std.specs.Prelude.{◌≡◌, ℕ, ◌*◌, ◌/◌, ◌<◌, ◌&&◌, nat_lt, Bool, true, List, [], slice_index_or}
use Rattle.std.proofs.lemmas.Bool.{and_parts, ltb-true}
use Rattle.vp_dots.specs.Dots.{dot}
use Rattle.vp_data_matrix.specs.declared.size.Size.{Size}

-- a symbol of a size, each of its modules a square of `scale` dots a row
pub record ScaledSymbol : Type 0 where
  pub size : Size
  pub scale : ℕ
  pub rows : List (List ℕ)

-- dots in a row, and in a column
abbrev pub across : ScaledSymbol → ℕ
across s = s.scale * s.size.columns

abbrev pub down : ScaledSymbol → ℕ
down s = s.scale * s.size.rows

-- the dot in column x of line y has ink
abbrev pub ink_of : ScaledSymbol → ℕ → ℕ → Bool
ink_of s x y = nat_lt x (across s) && nat_lt y (down s)
    && dot (slice_index_or s.rows (y / s.scale) []) (x / s.scale)

-- there is none outside
pub no_ink_outside : (s : ScaledSymbol) (x y : ℕ) → ink_of s x y ≡ true → (x < across s) × (y < down s)
no_ink_outside s x y h =
    let parts = and_parts _ _ (and_parts _ _ h).0 in
    (ltb-true _ _ parts.0, ltb-true _ _ parts.1)
