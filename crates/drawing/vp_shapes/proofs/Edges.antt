-- The edges of rows, by square roots.
use Rattle.std.proofs.Common.{inl, inr, ◌≡◌, ℕ, ◌+◌, ◌-◌, ◌*◌, ◌/◌, ◌<◌, ◌≤◌, max, Bool, false, leb, ltb, ◌&&◌, sym, ap, ◌∙◌, arith}
use Rattle.std.proofs.Math.Nat.{div-lt_iff_lt-mul, le-div_iff_mul-le}
use Rattle.std.proofs.lemmas.Nat.{mul-le, mul-lt}
use Rattle.std.proofs.lemmas.Bool.{cases_lt, lt-leb, le-leb}
use Rattle.std.proofs.lemmas.Bool.Decides.{nat_tests}
use Rattle.vp_shapes.specs.Ellipses.{square, from_middle}
use Rattle.vp_shapes.specs.Sides.{amid, mirrored}

-- what a square may be, by the root
pub below_root : (r n a : ℕ) → r * r ≤ n → n < (r + 1) * (r + 1) → leb (a * a) n ≡ leb a r
below_root r n a low high = elim (cases_lt r a) as (λ _. leb (a * a) n ≡ leb a r) [
  | inl l ↦ let h = mul-le (r + 1) (r + 1) a a (omega (arith, l)) (omega (arith, l)) in lt-leb (a * a) n (omega (arith, h)) ∙ sym (lt-leb a r l)
  | inr l ↦ let h = mul-le a a r r l l in le-leb (a * a) n (omega (arith, h)) ∙ sym (le-leb a r l)
]

-- and a product, by the quotient
pub within_reach : (d h s : ℕ) → 0 < h → leb (d * h) s ≡ leb d (s / h)
within_reach d h s k = elim (cases_lt s (d * h)) as (λ _. leb (d * h) s ≡ leb d (s / h)) [
  | inl l ↦ lt-leb (d * h) s l ∙ sym (lt-leb d (s / h) ((div-lt_iff_lt-mul k).1 l))
  | inr l ↦ le-leb (d * h) s l ∙ sym (le-leb d (s / h) ((le-div_iff_mul-le k).1 l))
]

pub reached : (d h n s : ℕ) → 0 < h → s * s ≤ n → n < (s + 1) * (s + 1) → leb (square (d * h)) n ≡ leb d (s / h)
reached d h n s k low high = below_root s n (d * h) low high ∙ within_reach d h s k

-- what is near the middle has so much on both sides
pub near_middle : (w x q : ℕ) → x < w → leb (from_middle w x) q ≡ amid w ((w - q) / 2) x
near_middle w x q l = grind (arith, nat_tests)

pub down_within : (f w h : ℕ) → f ≤ h → f * w * (f * w) ≤ w * h * (w * h)
down_within f w h l =
    let k = mul-le f w h w l (omega arith) in
    let m = mul-le (f * w) (f * w) (h * w) (h * w) k k in
    grind (arith, m)

pub sum_within : (a v n : ℕ) → v ≤ n → leb (a + v) n ≡ leb a (n - v)
sum_within a v n l = grind (arith, nat_tests)

-- a row of an ellipse, whose dots are so far below or above the middle
pub outer_row : (w h x down reach edge : ℕ) → down ≤ h
    → leb (square (from_middle w x * h)) (w * h * (w * h) - down * w * (down * w)) ≡ leb (from_middle w x) reach
    → leb (from_middle w x) reach ≡ amid w edge x
    → leb (square (from_middle w x * h) + square (down * w)) (square (w * h)) ≡ amid w edge x
outer_row w h x down reach edge l e f = sum_within _ _ _ (down_within down w h l) ∙ e ∙ f

pub sum_below : (a v n : ℕ) → v < n → ltb (a + v) n ≡ leb a (n - v - 1)
sum_below a v n l = grind (arith, nat_tests)

-- a row of the inner ellipse
pub inner_row : (w h x m down reach width edge : ℕ) → down * w < w * h
    → leb (square (m * h)) (w * h * (w * h) - down * w * (down * w) - 1) ≡ leb m reach
    → leb m reach ≡ amid width edge x
    → ltb (square (m * h) + square (down * w)) (square (w * h)) ≡ amid width edge x
inner_row w h x m down reach width edge l e f = sum_below _ _ _ (mul-lt (down * w) (down * w) (w * h) (w * h) l l) ∙ e ∙ f

-- which is there where its box is
pub is_there : (w h t v : ℕ) (row : Bool) → v < (w - 2 * t) * (h - 2 * t)
    → (ltb (2 * t) w && (ltb (2 * t) h && row)) ≡ row
is_there w h t v row l = elim (cases_lt (2 * t) w) as (λ _. (ltb (2 * t) w && (ltb (2 * t) h && row)) ≡ row) [
  | inl k ↦ elim (cases_lt (2 * t) h) as (λ _. (ltb (2 * t) w && (ltb (2 * t) h && row)) ≡ row) [
    | inl m ↦ grind (arith, nat_tests)
    | inr m ↦ let e = ap (λ n. (w - 2 * t) * n) (none h m) in absurd (omega (arith, e, l))
  ]
  | inr k ↦ let e = ap (λ n. n * (h - 2 * t)) (none w k) in absurd (omega (arith, e, l))
] where
  none : (n : ℕ) → n ≤ 2 * t → n - 2 * t ≡ 0
  none n m = omega arith

-- and one that is above or below it
pub no_inner_row : (a v n : ℕ) → n ≤ v → ltb (a + square v) (square n) ≡ false
no_inner_row a v n l = let h = mul-le n n v v l l in grind (arith, nat_tests, h)

-- what is far enough from the nearer end has so much on both sides
pub far_enough : (length x n : ℕ) → x < length → leb n (mirrored length x) ≡ amid length n x
far_enough length x n l = grind (arith, nat_tests)

-- so much on both sides twice over
pub both_amid : (length x a b : ℕ) → x < length → amid length (max a b) x ≡ (leb b (mirrored length x) && amid length a x)
both_amid length x a b l = grind (arith, nat_tests)

-- how far outside of the arc's centre, in sixteenths
pub cut_off : (r room m : ℕ) → leb (r - (16 * m + 8)) room ≡ leb ((r - room + 7) / 16) m
cut_off r room m = grind (arith, nat_tests)
