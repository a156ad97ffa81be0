-- Pieces that are handed out between two places of a row.
use Rattle.std.proofs.Common.{inl, inr, ◌≡◌, ℕ, ◌+◌, ◌-◌, ◌<◌, ◌≤◌, true, false, ltb, max, arith, sym, ◌∙◌, List, length, ℤ, pos, negsuc, ◌+ℤ◌}
use Rattle.std.proofs.lemmas.Bool.Decides.{nat_tests}
use Rattle.std.proofs.lemmas.Int.{ints}
use Rattle.std.proofs.lemmas.Bool.{cases_lt, ltb-true, lt-ltb}
use Rattle.vp_dots.specs.Dots.{dots}
use Rattle.vp_bars.specs.Drawing.{reach, HandedOut}

-- farther on are no fewer dots
pub reach_more : (at : ℤ) (d x y : ℕ) → x ≤ y → reach at d x ≤ reach at d y
reach_more at d x y h1 = grind arith

-- a dot between two places
pub reached : (at : ℤ) (d x y u e : ℕ) → x ≤ u → u < y → pos e ≡ at +ℤ pos u → e < d → reach at d x < reach at d y
reached at d x y u e h1 h2 h3 h4 = grind (arith, ints)

pub not_reached : (at : ℤ) (d x y : ℕ) → ltb (reach at d x) (reach at d y) ≡ false → (u e : ℕ) → x ≤ u → u < y → pos e ≡ at +ℤ pos u → e < d → ⊥
not_reached at d x y f u e h k q l = let z : true ≡ false = sym (lt-ltb (reach at d x) (reach at d y) (reached at d x y u e h k q l)) ∙ f in cc

-- places before the row, and behind it
pub none_before : (at : ℤ) (d x y : ℕ) → ((u e : ℕ) → x ≤ u → u < y → pos e ≡ at +ℤ pos u → e < 0) → reach at d y ≤ reach at d x
none_before at d x y h1 = grind (arith, cases_lt, ints, reach_more)

pub none_behind : (at : ℤ) (d x y : ℕ) → ((u e : ℕ) → x ≤ u → u < y → pos e ≡ at +ℤ pos u → d ≤ e) → reach at d y ≤ reach at d x
none_behind (pos a) d x y h = elim (cases_lt x y) [
  | inl l ↦ (let z = h x (a + x) (omega arith) l (omega (arith, ints)) in omega arith)
  | inr g ↦ reach_more (pos a) d y x g
]
none_behind (negsuc a) d x y h = elim (cases_lt x y) [
  | inl l ↦ elim (cases_lt x (a + 1)) [
    | inl m ↦ elim (cases_lt (a + 1) y) [
      | inl n ↦ (let z = h (a + 1) 0 (omega arith) n (omega (arith, ints)) in omega arith)
      | inr n ↦ omega arith
    ]
    | inr m ↦ (let z = h x (x - (a + 1)) (omega arith) l (omega (arith, ints)) in omega arith)
  ]
  | inr g ↦ reach_more (negsuc a) d y x g
]

reach_few : (at : ℤ) (d x : ℕ) → reach at d x ≤ d
reach_few at d x = grind arith

module _ (at : ℤ) (d : ℕ) where
  -- no more than the row has dots
  pub handed_few : (x y n : ℕ) → HandedOut at d x y n → n ≤ d
  handed_few x y n p = omega (arith, p.few, reach_few at d y)

  pub handed_none : (x : ℕ) → HandedOut at d x x 0
  handed_none x = record { few = omega arith; some = λ h. absurd (omega arith) }

  -- where the row has no dot none is handed out, and where it has any one may be
  pub handed_not : (x y : ℕ) → x ≤ y → ltb (reach at d x) (reach at d y) ≡ false → HandedOut at d x y 0
  handed_not x y l e = record { few = omega (arith, reach_more at d x y l); some = λ h. let z : true ≡ false = sym (lt-ltb (reach at d x) (reach at d y) h) ∙ e in cc }

  pub handed_shown : (x y z : ℕ) → z ≡ y → ltb (reach at d x) (reach at d y) ≡ true → HandedOut at d x z 1
  handed_shown x y z e h = let k = ltb-true (reach at d x) (reach at d y) h in rw e (record { few = omega arith; some = λ l. omega arith })

  -- between places that are farther apart, where the row has no more dots between them
  pub handed_within : (x from to y n : ℕ) → x ≤ from → to ≤ y → reach at d from ≤ reach at d x → reach at d y ≤ reach at d to → HandedOut at d from to n
      → HandedOut at d x y n
  handed_within x from to y n h k b e p = grind (arith, reach_more)

module _ (at : ℤ) (a b : List ℕ) (same : length b ≡ length a) where
  -- pieces behind others
  pub handed_then : (x y z m n : ℕ) → HandedOut at (dots a) x y m → HandedOut at (dots b) y z n → HandedOut at (dots a) x z (m + n)
  handed_then x y z m n p q = grind (arith, nat_tests)

  -- two that are one
  pub handed_with : (x y z m n k : ℕ) → k ≡ max m n → HandedOut at (dots a) x y m → HandedOut at (dots b) y z n → HandedOut at (dots a) x z k
  handed_with x y z m n k e p q = grind (arith, nat_tests)
