-- Dots at places of either sign.
use Rattle.std.proofs.Common.{◌≡◌, ℕ, ◌<◌, ◌^◌, Bool, true, false, eqb, eq-eqb, refl, ap, ◌∙◌, arith, ℤ, pos, ◌-ℤ◌}
use Rattle.std.proofs.lemmas.Bool.{true≢false, eqb-true}
use Rattle.std.proofs.lemmas.Int.{ints}
use Rattle.vp_dots.specs.Dots.{shifted}
use Rattle.vp_dots.proofs.Shifts.{met}
use Rattle.vp_field.specs.Places.{at_place}

-- a place with a dot is one of the line's
pub at_true : (line : ℕ → Bool) (z : ℤ) → at_place line z ≡ true → (u : ℕ) × (line u ≡ true) × (z ≡ pos u)
at_true line z h1 = grind (arith, true≢false)

-- the same line in other words
pub at_same : (f g : ℕ → Bool) (z : ℤ) → ((u : ℕ) → f u ≡ g u) → at_place f z ≡ at_place g z
at_same f g z h1 = grind arith

pub at_none : (f : ℕ → Bool) (z : ℤ) → ((u : ℕ) → f u ≡ false) → at_place f z ≡ false
at_none f z h1 = grind arith

-- what is moved by an offset lies at the place less the offset
pub shifted_at : (at : ℤ) (f : ℕ → Bool) (d : ℕ) → shifted at f d ≡ at_place f (pos d -ℤ at)
shifted_at at f d = grind (arith, met, ints)

-- lines of ink that has none outside
pub line_inside : (ink : ℕ → ℕ → Bool) (h : ℕ) → ((u v : ℕ) → ink u v ≡ true → v < h) → (z : ℤ) (v : ℕ) → at_place (λ u. ink u v) z ≡ true → v < h
line_inside ink h o z v e = let t = at_true (λ u. ink u v) z e in o t.0 v t.1

-- a place that a dot lies on, by what it shows of any line
pub on_dot : (z : ℤ) (v : ℕ) → ((line : ℕ → Bool) → ((u : ℕ) → line u ≡ true → u < 2 ^ 32) → at_place line z ≡ line v) → v < 2 ^ 32 → z ≡ pos v
on_dot z v e h =
    let t = at_true (λ u. eqb u v) z (e (λ u. eqb u v) (λ u k. rw (eqb-true u v k) h) ∙ eq-eqb v v refl) in
    t.2 ∙ ap (λ n. pos n) (eqb-true t.0 v t.1)
