-- Elements of the field in lists that are put together.
use Rattle.std.proofs.Common.{ℕ, zero, suc, ◌<◌, List, [], ◌∷◌, ◌++◌, get_or}

pub elements_append : (n : ℕ) (xs ys : List ℕ) → ((j : ℕ) → get_or xs j 0 < n) → ((j : ℕ) → get_or ys j 0 < n) → (j : ℕ) → get_or (xs ++ ys) j 0 < n
elements_append n [] ys h e j = e j
elements_append n (x ∷ xs) ys h e zero = h 0
elements_append n (x ∷ xs) ys h e (suc j) = elements_append n xs ys (λ (k : ℕ). h (suc k)) e j
