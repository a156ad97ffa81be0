-- A box with equal sides and a rounding of 8 is a circle.
use Rattle.std.proofs.Common.{inl, inr, ◌≡◌, ℕ, ◌+◌, ◌-◌, ◌*◌, ◌<◌, ◌≤◌, min, Bool, true, false, leb, ltb, ◌&&◌, refl, sym, ap, ◌∙◌, arith}
use Rattle.std.proofs.Math.Nat.{mul-lt-mul_of_pos_right}
use Rattle.std.proofs.lemmas.Nat.{mul-le}
use Rattle.std.proofs.lemmas.Bool.{cases_lt, lt-leb, le-leb, ltb-true}
use Rattle.std.proofs.lemmas.Bool.Decides.{nat_tests}
use Rattle.vp_shapes.specs.Ellipses.{square, from_middle, in_ellipse, in_hole, ring_dot}
use Rattle.vp_shapes.specs.RoundCorners.{radius, distance, in_hollow, rounded_dot}
use Rattle.vp_shapes.specs.Sides.{mirrored}

scaled_le : (s n q : ℕ) → 0 < q → leb (s * q) (n * q) ≡ leb s n
scaled_le s n q k = elim (cases_lt n s) as (λ _. leb (s * q) (n * q) ≡ leb s n) [
  | inl l ↦ lt-leb (s * q) (n * q) (mul-lt-mul_of_pos_right l k) ∙ sym (lt-leb s n l)
  | inr l ↦ le-leb (s * q) (n * q) (mul-le s q n q l (omega arith)) ∙ sym (le-leb s n l)
]

scaled_lt : (s n q : ℕ) → 0 < q → ltb (s * q) (n * q) ≡ ltb s n
scaled_lt s n q k = let h = scaled_le n s q k in grind (arith, nat_tests, h)

squares : (a b k : ℕ) → square (a * k) + square (b * k) ≡ (square a + square b) * (k * k)
squares a b k = grind arith

module _ (a b n k : ℕ) (some : 0 < k) where
  pub within : leb (square (a * k) + square (b * k)) (square (n * k)) ≡ leb (square a + square b) (square n)
  within = let h = scaled_le (square a + square b) (square n) (k * k) (mul-le 1 1 k k some some) in grind (arith, squares, h)

  pub below : ltb (square (a * k) + square (b * k)) (square (n * k)) ≡ ltb (square a + square b) (square n)
  below = let h = scaled_lt (square a + square b) (square n) (k * k) (mul-le 1 1 k k some some) in grind (arith, squares, h)

-- of a circle's box: half dots from the middle are eighths
middle : (d x : ℕ) → x < d → 8 * d - (16 * mirrored d x + 8) ≡ from_middle d x * 8
middle d x l = grind arith

the_rest : (d t : ℕ) → 8 * min d d - 16 * t ≡ (d - 2 * t) * 8
the_rest d t = omega arith

some_square : (n : ℕ) → 0 < n → 0 < square n
some_square n k = mul-le 1 1 n n k k

less_one : (s n : ℕ) → 0 < n → leb s (n - 1) ≡ ltb s n
less_one s n k = grind (arith, nat_tests)

covered : (t a b : ℕ) (row : Bool) → (row ≡ true → (t ≤ a) × (t ≤ b)) → (leb t a && (leb t b && row)) ≡ row
covered t a b false h = grind (arith, nat_tests)
covered t a b true h = let l = h refl in grind (arith, nat_tests, l)

-- the row and the column of a dot that lies within the inner edge
inside : (a d t : ℕ) → square a < square (d - 2 * t) → a < d - 2 * t
inside a d t l = elim (cases_lt a (d - 2 * t)) as (λ _. a < d - 2 * t) [
  | inl h ↦ h
  | inr h ↦ let k = mul-le _ _ _ _ h h in absurd (omega (arith, k, l))
]

module _ (d t x y : ℕ) (across : x < d) (down : y < d) where
  outer : leb (distance d d (radius d d 8) x y) (square (radius d d 8)) ≡ in_ellipse d d x y
  outer =
      let h = within (from_middle d x) (from_middle d y) d 8 (omega arith) in
      let k = within (from_middle d x) (from_middle d y) d d (omega (arith, across)) in
      let m = middle d x across in
      let n = middle d y down in
      grind (arith, h, k, m, n)

  abbrev small : Bool
  small = ltb (square (from_middle d x) + square (from_middle d y)) (square (d - 2 * t))

  of_hole : 2 * t < d → in_hole d d t x y ≡ small
  of_hole k =
      let h = below (from_middle d x) (from_middle d y) (d - 2 * t) (d - 2 * t) (omega (arith, k)) in
      grind (arith, nat_tests, h)

  of_hollow : 2 * t < d → leb (distance d d (radius d d 8) x y) (square (radius d d 8 - 16 * t) - 1) ≡ small
  of_hollow k =
      let h = below (from_middle d x) (from_middle d y) (d - 2 * t) 8 (omega arith) in
      let m = middle d x across in
      let n = middle d y down in
      let r = the_rest d t in
      less_one _ (square (radius d d 8 - 16 * t)) (some_square (radius d d 8 - 16 * t) (omega (arith, k))) ∙ grind (arith, nat_tests, h, m, n, r)

  near : small ≡ true → (t ≤ mirrored d x) × (t ≤ mirrored d y)
  near e =
      let k = ltb-true (square (from_middle d x) + square (from_middle d y)) (square (d - 2 * t)) e in
      let h = inside (from_middle d x) d t (omega (arith, k)) in
      let m = inside (from_middle d y) d t (omega (arith, k)) in
      (grind (arith, h), grind (arith, m))

  inner : in_hollow d d t (radius d d 8) x y ≡ in_hole d d t x y
  inner = elim (cases_lt (2 * t) d) as (λ _. in_hollow d d t (radius d d 8) x y ≡ in_hole d d t x y) [
    | inl k ↦ ap (λ row. leb t (mirrored d x) && (leb t (mirrored d y) && row)) (of_hollow k) ∙ covered t (mirrored d x) (mirrored d y) small near ∙ sym (of_hole k)
    | inr k ↦ grind (arith, nat_tests)
  ]

-- both rules are one
pub circle : (d t x y : ℕ) → rounded_dot d d t 8 x y ≡ ring_dot d d t x y
unfolding rounded_dot ring_dot
circle d t x y = elim (cases_lt x d) as (λ _. rounded_dot d d t 8 x y ≡ ring_dot d d t x y) [
  | inl k ↦ elim (cases_lt y d) as (λ _. rounded_dot d d t 8 x y ≡ ring_dot d d t x y) [
    | inl l ↦ let h = outer d t x y k l in let m = inner d t x y k l in grind (arith, h, m)
    | inr l ↦ grind (arith, nat_tests)
  ]
  | inr k ↦ grind (arith, nat_tests)
]
