-- A symbol as ink.
use Rattle.std.specs.Prelude.{◌≡◌, ℕ, ◌*◌, ◌/◌, ◌<◌, ◌&&◌, nat_lt, Bool, true}
use Rattle.std.proofs.lemmas.Bool.{and_parts, ltb-true}
use Rattle.vp_pdf417.specs.Modules.{across, module_of}
use Rattle.vp_pdf417.specs.Encoding.{Pdf417Symbol}

-- dots in a row, each module `scale` wide
abbrev pub wide : Pdf417Symbol → ℕ → ℕ
wide s scale = scale * across s.size

-- and in a column, each row `high` dots
abbrev pub tall : Pdf417Symbol → ℕ → ℕ
tall s high = high * s.size.rows

-- the dot in column x of line y has ink
abbrev pub ink_of : Pdf417Symbol → ℕ → ℕ → ℕ → ℕ → Bool
ink_of s scale high x y = nat_lt x (wide s scale) && nat_lt y (tall s high)
    && module_of s.size s.words (y / high) (x / scale)

-- there is none outside
pub no_ink_outside : (s : Pdf417Symbol) (scale high x y : ℕ) → ink_of s scale high x y ≡ true
    → (x < wide s scale) × (y < tall s high)
no_ink_outside s scale high x y h =
    let parts = and_parts _ _ (and_parts _ _ h).0 in
    (ltb-true _ _ parts.0, ltb-true _ _ parts.1)
