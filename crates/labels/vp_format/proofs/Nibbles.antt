-- Places of a row of bytes, two to a byte.
use Rattle.std.proofs.Common.{inl, inr, ◌≡◌, ℕ, ◌+◌, ◌*◌, ◌/◌, ◌%◌, ◌<◌, eqb, cond, List, length, get_or, ◌++◌, take, replicate, ap, refl, arith, ◌≤◌, get_or-take}
use Rattle.std.proofs.Math.ListN.{get_or-append}
use Rattle.std.proofs.lemmas.List.{get_or-replicate, get_or-append_right, length-take, length-replicate}
use Rattle.std.proofs.lemmas.Bool.{cases_Bool}
use Rattle.vp_format.specs.Pictures.{nibble}

-- the front of a row, and a row with more behind it
pub nibble_front : (row : List ℕ) (n j : ℕ) → j < 2 * n → nibble (take n row) j ≡ nibble row j
unfolding nibble
nibble_front row n j h = ap (λ x. cond (eqb (j % 2) 0) (x / 16) (x % 16)) (get_or-take n row (j / 2) 0 (omega arith))

pub nibble_append : (row rest : List ℕ) (j : ℕ) → j < 2 * length row → nibble (row ++ rest) j ≡ nibble row j
unfolding nibble
nibble_append row rest j h = ap (λ x. cond (eqb (j % 2) 0) (x / 16) (x % 16)) (get_or-append row rest 0 (j / 2) (omega arith))

pub nibble_zero : (n j : ℕ) → j < 2 * n → nibble (replicate n 0) j ≡ 0
unfolding nibble
nibble_zero n j h = rw (get_or-replicate {A = ℕ} n (j / 2) 0 0 (omega arith)) (elim (cases_Bool (eqb (j % 2) 0)) [ inl e ↦ rw e refl | inr e ↦ rw e refl ])

-- both places of a byte that has one value twice
pub nibble_twice : (n v j : ℕ) → v < 16 → j < 2 * n → nibble (replicate n (v * 16 + v)) j ≡ v
unfolding nibble
nibble_twice n v j small h = grind (arith, get_or-replicate)

-- the two places of a byte that was put together
pub nibble_of_values : (row : List ℕ) (f : ℕ → ℕ) (j : ℕ) → get_or row (j / 2) 0 ≡ f (2 * (j / 2)) * 16 + f (2 * (j / 2) + 1) → f (2 * (j / 2) + 1) < 16 → nibble row j ≡ f j
unfolding nibble
nibble_of_values row f j e small = grind arith

pub nibble_of_pair : (row places : List ℕ) (j : ℕ) → get_or row (j / 2) 0 ≡ get_or places (2 * (j / 2)) 0 * 16 + get_or places (2 * (j / 2) + 1) 0 → get_or places (2 * (j / 2) + 1) 0 < 16 → nibble row j ≡ get_or places j 0
nibble_of_pair row places j e small = nibble_of_values row (λ k. get_or places k 0) j e small

-- a row of which the front stays, and a value stands twice in each byte behind it
pub nibble_kept : (row mid rest : List ℕ) (n j : ℕ) → n ≤ length row → j < 2 * n → nibble (take n row ++ (mid ++ rest)) j ≡ nibble row j
nibble_kept row mid rest n j room l = grind (arith, length-take, nibble_append, nibble_front)

pub nibble_behind : (row mid rest : List ℕ) (n k v j : ℕ) → n ≤ length row → mid ≡ replicate k (v * 16 + v) → v < 16 → 2 * n ≤ j → j < 2 * (n + k) → nibble (take n row ++ (mid ++ rest)) j ≡ v
unfolding nibble
nibble_behind row mid rest n k v j room e small l m = grind (arith, length-take, get_or-append_right, get_or-append, length-replicate, get_or-replicate)
