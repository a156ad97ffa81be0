-- Numbers in base 900.
use Rattle.std.specs.Prelude.{ℕ, zero, suc, ◌/◌, ◌%◌, List, [], ◌∷◌}

-- a number without its k lowest places
abbrev pub cut : ℕ → ℕ → ℕ
cut t zero = t
cut t (suc k) = cut t k / 900

-- its n lowest places, the highest first
abbrev pub base_900 : ℕ → ℕ → List ℕ
base_900 zero t = []
base_900 (suc n) t = cut t n % 900 ∷ base_900 n t
