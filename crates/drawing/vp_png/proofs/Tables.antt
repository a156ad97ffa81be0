-- What is computed for each number below one.
use Rattle.std.proofs.Common.{◌≡◌, ℕ, zero, suc, ◌+◌, ◌-◌, ◌<◌, ◌≤◌, inl, inr, List, [], ◌∷◌, sym, arith, subst}
use Rattle.std.proofs.lemmas.Bool.{cases_lt}

-- the values at all numbers below n
abbrev pub table : {A : Type 0} → ℕ → (ℕ → A) → List A
table zero f = []
table (suc n) f = f n ∷ table n f

head_same : {A : Type 0} (x y : A) (xs ys : List A) → x ∷ xs ≡ y ∷ ys → x ≡ y
head_same x y xs ys e = cc

tail_same : {A : Type 0} (x y : A) (xs ys : List A) → x ∷ xs ≡ y ∷ ys → xs ≡ ys
tail_same x y xs ys e = cc

pub same_in : {A : Type 0} (n : ℕ) (f g : ℕ → A) → table n f ≡ table n g → (k : ℕ) → k < n → f k ≡ g k
same_in zero f g e k lt = absurd (omega arith)
same_in (suc n) f g e k lt = elim (cases_lt k n) [
  | inl h ↦ same_in n f g (tail_same (f n) (g n) (table n f) (table n g) e) k h
  | inr h ↦ (let at : n ≡ k = omega arith in subst (λ (j : ℕ). f j ≡ g j) at (head_same (f n) (g n) (table n f) (table n g) e))
]

-- one value at all numbers from one on
pub same_from : {A : Type 0} (f : ℕ → A) (low n : ℕ) (y : A) → table n (λ (k : ℕ). f (low + k)) ≡ table n (λ (k : ℕ). y) →
    (k : ℕ) → low ≤ k → k < low + n → y ≡ f k
same_from f low n y e k from to =
    let at : low + (k - low) ≡ k = omega arith in
    sym (subst (λ (j : ℕ). f j ≡ y) at (same_in n (λ (j : ℕ). f (low + j)) (λ (j : ℕ). y) e (k - low) (omega arith)))
