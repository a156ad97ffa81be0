-- Many rows painted, in other words and one painting after another.
use Rattle.std.proofs.Common.{◌≡◌, ℕ, ◌+◌, ◌<◌, Bool, false, ltb, ◌&&◌, ◌||◌, arith, List, [], length, get_or, set}
use Rattle.std.proofs.lemmas.Grind.{common_steps}
use Rattle.vp_dots.specs.Painting.{Painted}
use Rattle.vp_dots.specs.Places.{RowsPainted}
use Rattle.vp_dots.specs.declared.Op.{Op}
use Rattle.vp_dots.proofs.Placing.{rows_more}

module _ (high : ℕ) (op : Op) where
  -- the same ink in other words
  pub rows_same : (f g : ℕ → ℕ → Bool) (a b : List (List ℕ)) → ((x k : ℕ) → k < high → f x k ≡ g x k) → RowsPainted high op f a b → RowsPainted high op g a b
  rows_same f g a b e p = grind arith

  -- one painting after another that it does not meet
  pub rows_then : (f g h : ℕ → ℕ → Bool) (a b c : List (List ℕ)) → ((x k : ℕ) → h x k ≡ (f x k || g x k)) → ((x k : ℕ) → (f x k && g x k) ≡ false)
      → RowsPainted high op f a b → RowsPainted high op g b c → RowsPainted high op h a c
  rows_then f g h a b c e n p q = grind arith

  -- one more row below `top`
  pub rows_next : (f : ℕ → ℕ → Bool) (top i : ℕ) (a b : List (List ℕ)) (row : List ℕ) → top + i < length b → top + i < high → RowsPainted high op (λ x k. ltb k (top + i) && f x k) a b
      → Painted op (λ x. f x (top + i)) (get_or b (top + i) []) row → RowsPainted high op (λ x k. ltb k (top + (i + 1)) && f x k) a (set b (top + i) row)
  rows_next f top i a b row l h p q = grind (arith, common_steps, rows_more)
