-- The sums of bytes in two parts.
use Rattle.std.proofs.Common.{◌≡◌, ℕ, ◌+◌, ◌-◌, ◌*◌, ◌/◌, ◌%◌, ◌<◌, List, [], ◌∷◌, ◌++◌, length, take, sum, get_or, refl, ap, ◌∙◌, arith}
use Rattle.std.proofs.lemmas.Grind.{common_steps}
use Rattle.std.proofs.lemmas.List.{take_more, map-append}
use Rattle.vp_png.specs.declared.sums.Sums.{Sums}
use Rattle.vp_png.specs.Zlib.{first_sum, sums_after, second_sum}
use Rattle.vp_png.specs.Kept.{AreSums, shown}

sum_both : (xs ys : List ℕ) → sum (xs ++ ys) ≡ sum xs + sum ys
sum_both xs ys = grind (arith, common_steps)

pub sum_next : (x : ℕ) (xs : List ℕ) → sum (x ∷ xs) ≡ x + sum xs
sum_next x xs = grind (arith, common_steps)

after_both : (a : ℕ) (xs ys : List ℕ) → sums_after a (xs ++ ys) ≡ sums_after a xs + sums_after (a + sum xs) ys
unfolding sums_after
after_both a [] ys =
    let e : a + sum [] ≡ a = omega arith in
    rw e (omega arith)
after_both a (x ∷ xs) ys =
    let e : a + x + sum xs ≡ a + sum (x ∷ xs) = omega (arith, sum_next x xs) in
    omega (arith, after_both (a + x) xs ys, ap (λ (n : ℕ). sums_after n ys) e)

-- one more byte
pub sums_more : (a : ℕ) (xs : List ℕ) (y : ℕ) →
    (sum (xs ++ y ∷ []) ≡ sum xs + y) × (sums_after a (0 ∷ xs ++ y ∷ []) ≡ sums_after a (0 ∷ xs) + (a + sum xs + y))
unfolding sums_after
sums_more a xs y =
    let e : a + 0 + sum xs ≡ a + sum xs = omega arith in (
      omega (arith, sum_both xs (y ∷ []), sum_next y []),
      omega (arith, after_both (a + 0) xs (y ∷ []), ap (λ (n : ℕ). n + y + 0) e),
    )

pub shown_more : (row : List ℕ) (i : ℕ) → i < length row → shown (take (i + 1) row) ≡ shown (take i row) ++ (255 - get_or row i 0) ∷ []
shown_more row i h = ap shown (take_more row i 0 h) ∙ map-append (λ (b : ℕ). 255 - b) (take i row) (get_or row i 0 ∷ [])

-- whole moduli that the first sum begins with
after_whole : (q a : ℕ) (ys : List ℕ) → (p : ℕ) × (sums_after (q * 65521 + a) ys ≡ p * 65521 + sums_after a ys)
unfolding sums_after
after_whole q a [] = (0, refl)
after_whole q a (y ∷ ys) =
    let w = after_whole q (a + y) ys in
    let e : q * 65521 + (a + y) ≡ q * 65521 + a + y = omega arith in
    (q + w.0, omega (arith, w.1, ap (λ (n : ℕ). sums_after n ys) e))

pub sums_behind : (s : Sums) (before ys : List ℕ) → AreSums s before →
    ((s.first + sum ys) % 65521 ≡ first_sum (before ++ ys)) × ((s.second + sums_after s.first ys) % 65521 ≡ second_sum (before ++ ys))
sums_behind s before ys h =
    let q : ℕ = (1 + sum before) / 65521 in
    let e : q * 65521 + s.first ≡ 1 + sum before = omega (arith, h.first) in
    let w = after_whole q s.first ys in (
      omega (arith, h.first, sum_both before ys),
      omega (arith, h.second, w.1, after_both 1 before ys, ap (λ (n : ℕ). sums_after n ys) e),
    )
