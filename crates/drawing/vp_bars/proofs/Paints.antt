-- Paintings from the left, one piece after another.
use Rattle.std.proofs.Common.{inl, inr, ◌⊎◌, ◌≡◌, ℕ, ◌+◌, ◌-◌, ◌<◌, ◌≤◌, Bool, false, leb, ◌&&◌, ◌||◌, refl, arith, List, [], ◌∷◌, ℤ, pos, negsuc, ◌+ℤ◌}
use Rattle.std.proofs.lemmas.Bool.Decides.{nat_tests}
use Rattle.std.proofs.lemmas.Int.{ints}
use Rattle.std.proofs.lemmas.Bool.{cases_lt, le-leb, lt-leb, lt-ltb, le-ltb}
use Rattle.vp_dots.specs.Dots.{bit, dot, shifted}
use Rattle.vp_dots.specs.Painting.{paint, Painted}
use Rattle.vp_dots.specs.declared.Op.{Op}
use Rattle.vp_dots.specs.declared.Op.TheVariants.{Black}
use Rattle.vp_bars.specs.Drawing.{Drawn}

-- dot d meets one place of whatever is moved, or none
met : (at : ℤ) (d : ℕ) → ((u : ℕ) × ((f : ℕ → Bool) → shifted at f d ≡ f u)) ⊎ ((f : ℕ → Bool) → shifted at f d ≡ false)
met (pos a) d = elim (cases_lt d a) [
  | inl l ↦ inr (λ f. rw (lt-leb a d l) refl)
  | inr g ↦ inl (d - a, (λ f. rw (le-leb a d g) refl))
]
met (negsuc a) d = inl (d + (a + 1), (λ f. refl))

module _ (op : Op) (at : ℤ) where
  -- the same ink in other words
  pub moved_same : (f g : ℕ → Bool) (a b : List ℕ) → ((u : ℕ) → f u ≡ g u) → Painted op (shifted at f) a b → Painted op (shifted at g) a b
  moved_same f g a b h p = grind (arith, met)

  -- no ink
  pub moved_none : (f : ℕ → Bool) (a : List ℕ) → ((u : ℕ) → f u ≡ false) → Painted op (shifted at f) a a
  moved_none f a h = grind (arith, met)

  twice : (i j k old : Bool) → k ≡ (i || j) → (i && j) ≡ false → paint op j (paint op i old) ≡ paint op k old
  twice i j k old h1 h2 = grind arith

  -- one ink and then another that it does not meet
  pub moved_then : (f g h : ℕ → Bool) (a b c : List ℕ) → Painted op (shifted at f) a b → Painted op (shifted at g) b c
      → ((u : ℕ) → h u ≡ (f u || g u)) → ((u : ℕ) → (f u && g u) ≡ false) → Painted op (shifted at h) a c
  moved_then f g h a b c p q either apart = grind (arith, met, twice)

  module _ (f : ℕ → Bool) (old : List ℕ) where
    -- nothing is painted yet
    pub drawn_none : (x : ℕ) (g : ℕ → Bool) → ((i : ℕ) → f i ≡ (leb x i && g (i - x))) → Drawn op at f old old x g
    drawn_none x g e = grind (arith, moved_none, cases_lt, lt-leb, lt-ltb, le-ltb, le-leb)

    -- a piece of so many places
    pub drawn_more : (row new : List ℕ) (x w : ℕ) (g p h : ℕ → Bool) → Drawn op at f old row x g → Painted op (shifted at (λ i. leb x i && p (i - x))) row new
        → ((j : ℕ) → j < w → g j ≡ p j) → ((j : ℕ) → w ≤ j → p j ≡ false) → ((j : ℕ) → g (w + j) ≡ h j) → Drawn op at f old new (x + w) h
    drawn_more row new x w g p h r q here behind after = grind (arith, nat_tests, moved_then, cases_lt, lt-ltb, lt-leb, le-ltb, le-leb)

    -- all is painted
    pub drawn_all : (row : List ℕ) (x : ℕ) (g : ℕ → Bool) → Drawn op at f old row x g → ((j : ℕ) → g j ≡ false) → Painted op (shifted at f) old row
    drawn_all row x g r none = grind (arith, nat_tests)

white : dot (0 ∷ []) 0 ≡ false
unfolding dot bit
white = refl

-- a byte on which dot x of a row falls on the leftmost place
pub dot_shown : (at : ℤ) (f : ℕ → Bool) (x : ℕ) (new : List ℕ) → at +ℤ pos x ≡ pos 0 → Painted Black (shifted at f) (0 ∷ []) new → dot new 0 ≡ f x
dot_shown at f x new e p = grind (arith, white, ints)
