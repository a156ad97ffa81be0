-- A row of dots moved by a signed offset.
use Rattle.std.proofs.Common.{inl, inr, ◌⊎◌, ◌≡◌, ℕ, ◌+◌, ◌-◌, ◌*◌, ◌/◌, ◌%◌, ◌<◌, ◌≤◌, Bool, true, false, eqb, ltb, leb, ◌&&◌, ◌||◌, refl, sym, ap, ◌∙◌, arith, ℤ, pos, negsuc, ◌+ℤ◌}
use Rattle.std.proofs.lemmas.Int.{ints}
use Rattle.std.proofs.lemmas.Bool.{cases_eq, cases_lt, le-leb, lt-leb}
use Rattle.std.proofs.lemmas.Bool.Decides.{nat_tests}
use Rattle.vp_dots.specs.Dots.{shifted}

-- place d meets a place x of what was moved, or none
pub met : (at : ℤ) (d : ℕ) → ((x : ℕ) × (pos d ≡ at +ℤ pos x) × ((f : ℕ → Bool) → shifted at f d ≡ f x)) ⊎ (((x : ℕ) → pos d ≡ at +ℤ pos x → ⊥) × ((f : ℕ → Bool) → shifted at f d ≡ false))
met (pos a) d = elim (cases_lt d a) [
  | inl l ↦ inr ((λ x e. omega (arith, ints)), (λ f. rw (lt-leb a d l) refl))
  | inr g ↦ inl (d - a, (omega (arith, ints)), (λ f. rw (le-leb a d g) refl))
]
met (negsuc a) d = inl (d + (a + 1), (omega (arith, ints)), (λ f. refl))

-- what is equal stays equal
pub shifted_same : (at : ℤ) (f g : ℕ → Bool) (d : ℕ) → ((x : ℕ) → pos d ≡ at +ℤ pos x → f x ≡ g x) → shifted at f d ≡ shifted at g d
shifted_same at f g d h = elim (met at d) [
  | inl p ↦ p.2 f ∙ h p.0 p.1 ∙ sym (p.2 g)
  | inr n ↦ n.1 f ∙ sym (n.1 g)
]

pub shifted_none : (at : ℤ) (f : ℕ → Bool) (d : ℕ) → ((x : ℕ) → f x ≡ false) → shifted at f d ≡ false
shifted_none at f d h = elim (met at d) [ inl p ↦ p.2 f ∙ h p.0 | inr n ↦ n.1 f ]

pub shifted_or : (at : ℤ) (f g h : ℕ → Bool) (d : ℕ) → ((x : ℕ) → h x ≡ (f x || g x)) → shifted at h d ≡ (shifted at f d || shifted at g d)
shifted_or at f g h d e = elim (met at d) [
  | inl p ↦ p.2 h ∙ e p.0 ∙ sym (ap (λ b. b || shifted at g d) (p.2 f) ∙ ap (λ b. f p.0 || b) (p.2 g))
  | inr n ↦ n.1 h ∙ sym (ap (λ b. b || shifted at g d) (n.1 f) ∙ n.1 g)
]

pub shifted_and : (at : ℤ) (f g : ℕ → Bool) (d : ℕ) → ((x : ℕ) → (f x && g x) ≡ false) → (shifted at f d && shifted at g d) ≡ false
shifted_and at f g d e = elim (met at d) [
  | inl p ↦ ap (λ b. b && shifted at g d) (p.2 f) ∙ ap (λ b. f p.0 && b) (p.2 g) ∙ e p.0
  | inr n ↦ ap (λ b. b && shifted at g d) (n.1 f)
]

-- the places below x that f has, and one more
pub below_or : (f : ℕ → Bool) (x i : ℕ) → f x ≡ true → (ltb i (x + 1) && f i) ≡ (ltb i x && f i || eqb i x)
below_or f x i h = elim (cases_eq i x) [
  | inl y ↦ (let w : f i ≡ true = ap f y ∙ h in grind (arith, nat_tests))
  | inr q ↦ grind (arith, nat_tests)
]

pub below_apart : (f : ℕ → Bool) (x i : ℕ) → (ltb i x && f i && eqb i x) ≡ false
below_apart f x i = grind (arith, nat_tests)

pub below_skip : (f : ℕ → Bool) (x i : ℕ) → f x ≡ false → (ltb i x && f i) ≡ (ltb i (x + 1) && f i)
below_skip f x i h = grind arith

pub below_all : (f : ℕ → Bool) (w n i : ℕ) → (f i ≡ true → i < w) → w ≤ n → (ltb i n && f i) ≡ f i
below_all f w n i h l = grind arith

pub none_below : (f : ℕ → Bool) (x : ℕ) → (ltb x 0 && f x) ≡ false
none_below f x = grind (arith, nat_tests)

-- a move to the right by whole bytes, after one by less than a byte
pub twice_right : (f : ℕ → Bool) (far d : ℕ) → (leb (8 * (far / 8)) d && (leb (far % 8) (d - 8 * (far / 8)) && f (d - 8 * (far / 8) - far % 8))) ≡ (leb far d && f (d - far))
twice_right f far d = elim (cases_lt d (8 * (far / 8))) [
  | inl b ↦ rw (lt-leb (8 * (far / 8)) d b, lt-leb far d (omega arith)) refl
  | inr g ↦ rw (le-leb (8 * (far / 8)) d g) (elim (cases_lt (d - 8 * (far / 8)) (far % 8)) [
    | inl b ↦ rw (lt-leb (far % 8) (d - 8 * (far / 8)) b, lt-leb far d (omega arith)) refl
    | inr h ↦ rw (le-leb (far % 8) (d - 8 * (far / 8)) h, le-leb far d (omega arith)) (ap f (omega arith))
  ])
]

-- what is moved has at place d what it had at the place that meets d
pub shifted_meets : (at : ℤ) (f : ℕ → Bool) (d x : ℕ) → pos d ≡ at +ℤ pos x → shifted at f d ≡ f x
shifted_meets at f d x e = elim (met at d) [
  | inl p ↦ (let q = p.1 in p.2 f ∙ ap f (omega (arith, ints)))
  | inr n ↦ absurd (n.0 x e)
]

-- and nothing where none does
pub shifted_outside : (at : ℤ) (f : ℕ → Bool) (d : ℕ) → ((x : ℕ) → pos d ≡ at +ℤ pos x → ⊥) → shifted at f d ≡ false
shifted_outside at f d h = elim (met at d) [
  | inl p ↦ absurd (h p.0 p.1)
  | inr n ↦ n.1 f
]
