-- Bytes of which the first are kept.
use Rattle.std.proofs.Common.{◌≡◌, ℕ, zero, suc, List, [], ◌∷◌, ◌++◌, take, refl, ap}

-- the first that are kept, and one more
pub again : (n : ℕ) (xs : List ℕ) (c : ℕ) → take n (take n xs ++ c ∷ []) ≡ take n (xs ++ c ∷ [])
again zero xs c = refl
again (suc n) [] c = refl
again (suc n) (x ∷ xs) c = ap (λ ys. x ∷ ys) (again n xs c)
