-- A symbol as ink.
use Rattle.std.specs.Prelude.{◌≡◌, ℕ, ◌*◌, ◌/◌, ◌<◌, ◌&&◌, nat_lt, Bool, true}
use Rattle.std.proofs.lemmas.Bool.{and_parts, ltb-true}
use Rattle.vp_aztec.specs.Places.{side}
use Rattle.vp_aztec.specs.Modules.{module_of}
use Rattle.vp_aztec.specs.Encoding.{AztecSymbol}

-- dots in a row and in a column, each module `scale` wide
abbrev pub wide : AztecSymbol → ℕ → ℕ
wide s scale = scale * side s.size

-- the dot in column x of line y has ink
abbrev pub ink_of : AztecSymbol → ℕ → ℕ → ℕ → Bool
ink_of s scale x y = nat_lt x (wide s scale) && nat_lt y (wide s scale)
    && module_of s.size s.words s.mode (x / scale) (y / scale)

-- there is none outside
pub no_ink_outside : (s : AztecSymbol) (scale x y : ℕ) → ink_of s scale x y ≡ true
    → (x < wide s scale) × (y < wide s scale)
no_ink_outside s scale x y h =
    let parts = and_parts _ _ (and_parts _ _ h).0 in
    (ltb-true _ _ parts.0, ltb-true _ _ parts.1)
