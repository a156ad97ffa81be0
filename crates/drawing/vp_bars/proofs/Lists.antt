-- Tests of whole lists.
use Rattle.std.proofs.Common.{◌≡◌, ℕ, ◌<◌, Bool, true, List, length, get_or, refl, arith}
use Rattle.std.specs.List.{list_all}
use Rattle.std.proofs.lemmas.List.Folds.{list_all_at}

module _ {X : Type 0} (p : X → Bool) (xs : List X) (i : ℕ) (d : X) (h : i < length xs) (all : list_all p xs ≡ true) where
  by_value : (b : Bool) → p (get_or xs i d) ≡ b → p (get_or xs i d) ≡ true
  by_value b h1 = grind (arith, list_all_at)

  -- each element passes
  pub list_all_get : p (get_or xs i d) ≡ true
  list_all_get = by_value (p (get_or xs i d)) refl
