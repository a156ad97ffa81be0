-- The first of the units.
use Rattle.std.proofs.Common.{◌≡◌, ℕ, suc, ◌-◌, List, ◌∷◌, take, ap, ◌∙◌, arith}
use Rattle.vp_code_tables.specs.declared.encoding.Encoding.{Encoding}
use Rattle.vp_code_tables.specs.Units.{unit_len, unit_of, units, units_behind}

-- the unit at the front, where its length is known, and those behind it
pub units-first : (encoding : Encoding) (n b : ℕ) (bytes : List ℕ) → unit_len encoding (b ∷ bytes) ≡ suc n
    → units encoding (b ∷ bytes) ≡ unit_of encoding (take (suc n) (b ∷ bytes)) ∷ units_behind encoding n bytes
unfolding units_behind
units-first encoding n b bytes e =
    ap (λ (len : ℕ). unit_of encoding (take len (b ∷ bytes)) ∷ units_behind encoding (len - 1) bytes) e
    ∙ ap (λ (m : ℕ). unit_of encoding (take (suc n) (b ∷ bytes)) ∷ units_behind encoding m bytes) (omega arith)
