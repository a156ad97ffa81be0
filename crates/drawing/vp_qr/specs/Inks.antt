-- A symbol as ink: each module a square of dots.
use Rattle.std.specs.Prelude.{◌≡◌, ℕ, ◌*◌, ◌/◌, ◌<◌, ◌&&◌, nat_lt, Bool, true, List}
use Rattle.std.proofs.lemmas.Bool.{and_parts, ltb-true}
use Rattle.vp_qr.specs.Walk.{dark}
use Rattle.vp_qr.specs.Penalty.{is_set}

-- a symbol of `size` modules a row, each a square of `scale` dots a row
pub record ScaledSymbol : Type 0 where
  pub size : ℕ
  pub scale : ℕ
  pub rows : List ℕ

-- dots in a row
abbrev pub side : ScaledSymbol → ℕ
side s = s.scale * s.size

-- the dot in column x of line y has ink
abbrev pub ink_of : ScaledSymbol → ℕ → ℕ → Bool
ink_of s x y = nat_lt x (side s) && nat_lt y (side s) && dark s.rows (y / s.scale) (x / s.scale)

-- there is none outside
pub no_ink_outside : (s : ScaledSymbol) (x y : ℕ) → ink_of s x y ≡ true → (x < side s) × (y < side s)
no_ink_outside s x y h =
    let parts = and_parts _ _ (and_parts _ _ h).0 in
    (ltb-true _ _ parts.0, ltb-true _ _ parts.1)

-- the dot in column x of a line of modules has ink
abbrev pub line_ink : ℕ → ℕ → ℕ → ℕ → Bool
line_ink line size scale x = nat_lt x (scale * size) && is_set line (x / scale)
