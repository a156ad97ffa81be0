-- Rows of tables.
use Rattle.std.proofs.Common.{◌≡◌, ◌≢◌, ℕ, zero, suc, List, [], ◌∷◌, ◌++◌, length, get_or, map, Bool, true, refl, arith}
use Rattle.std.proofs.lemmas.Grind.{common_steps}
use Rattle.std.specs.List.{list_all}

-- what is made of a row, from a table of what is made of each
pub mapped_row : {Y : Type 0} (f : List ℕ → Y) (xs : List (List ℕ)) (v : ℕ) → get_or (map f xs) v (f []) ≡ f (get_or xs v [])
mapped_row f [] v = refl
mapped_row f (x ∷ xs) zero = refl
mapped_row f (x ∷ xs) (suc v) = mapped_row f xs v

-- a test that each row passes, and the empty one
pub each_row : (p : List ℕ → Bool) (xs : List (List ℕ)) (v : ℕ) → p [] ≡ true → list_all p xs ≡ true → p (get_or xs v []) ≡ true
each_row p xs v none all = grind (arith, common_steps)

-- a row other than the last
pub rows_without_last : (xs : List (List ℕ)) (last : List ℕ) (v : ℕ) → v ≢ length xs → get_or (xs ++ last ∷ []) v [] ≡ get_or xs v []
rows_without_last xs last v n = grind (arith, common_steps)
