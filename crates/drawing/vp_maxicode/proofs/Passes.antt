-- Tests of all numbers below one.
use Rattle.std.proofs.Common.{◌≡◌, ℕ, zero, suc, ◌<◌, ◌&&◌, Bool, true, arith}
use Rattle.std.proofs.lemmas.Bool.{and_parts}

-- a test that passes at each number below n
abbrev pub passes_below : ℕ → (ℕ → Bool) → Bool
passes_below zero p = true
passes_below (suc n) p = p n && passes_below n p

pub passes_at : (n : ℕ) (p : ℕ → Bool) → passes_below n p ≡ true → (k : ℕ) → k < n → p k ≡ true
passes_at zero p h k lt = absurd (omega arith)
passes_at (suc n) p h k lt = grind (arith, passes_at n p (and_parts (p n) (passes_below n p) h).1 k)
