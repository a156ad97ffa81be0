-- Spans of dots, as the bytes between their ends and the bits at these.
use Rattle.std.proofs.Common.{inl, inr, ◌≡◌, ℕ, ◌+◌, ◌-◌, ◌/◌, ◌%◌, ◌^◌, ◌<◌, min, true, false, not, eqb, ltb, leb, ◌&&◌, ◌||◌, refl, sym, ap, ◌∙◌, arith, bit_and}
use Rattle.std.specs.Int.{bit_at, w8}
use Rattle.std.proofs.lemmas.Nat.{shr-shr}
use Rattle.std.proofs.Math.Nat.{div-le_self}
use Rattle.std.proofs.lemmas.Nat.Bits.{bit_at_and, bit_at_not, bit_at_ones, bit_at_above, bit_at-lt}
use Rattle.std.proofs.lemmas.Bool.{cases_lt, lt-leb, le-leb}
use Rattle.std.proofs.lemmas.Bool.Decides.{nat_tests}
use Rattle.vp_dots.specs.Dots.{bit, span}

pub bit_of_and : (a b k : ℕ) → bit (bit_and a b) k ≡ (bit a k && bit b k)
unfolding bit
bit_of_and a b k = grind (arith, bit_at_and)

of_not : (x : ℕ) → x < 2 → eqb (1 - x) 1 ≡ not (eqb x 1)
of_not x p = grind (arith, nat_tests)

bit_of_not : (b k : ℕ) → b < 2 ^ 8 → k < 8 → bit (255 - b) k ≡ not (bit b k)
unfolding bit
bit_of_not b k p q = rw (bit_at_not w8 b k p q) (of_not _ (bit_at-lt b k))

-- the bits from one on, counted from the left
pub bit_of_from : (s k : ℕ) → s < 8 → k < 8 → bit (255 / 2 ^ s) k ≡ leb s (7 - k)
unfolding bit
bit_of_from s k p q = ap (λ x. eqb (x % 2) 1) (shr-shr 255 s k) ∙ elim (cases_lt (s + k) 8) as (λ _. eqb (bit_at 255 (s + k)) 1 ≡ leb s (7 - k)) [
  | inl l ↦ rw (bit_at_ones 8 (s + k) l) (sym (le-leb s (7 - k) (omega arith)))
  | inr g ↦ rw (bit_at_above 255 8 (s + k) (omega arith) g) (sym (lt-leb s (7 - k) (omega arith)))
]

-- the bits before one
pub bit_of_before : (s k : ℕ) → s < 8 → k < 8 → bit (255 - 255 / 2 ^ s) k ≡ ltb (7 - k) s
bit_of_before s k p q = bit_of_not (255 / 2 ^ s) k (let h = div-le_self 255 (2 ^ s) in omega arith) q ∙ ap not (bit_of_from s k p q) ∙ grind (arith, nat_tests)

-- dots of one byte
pub within : (from to d : ℕ) → from / 8 ≡ to / 8 → (eqb (d / 8) (from / 8) && (leb (from % 8) (7 - (7 - d % 8)) && ltb (7 - (7 - d % 8)) (to % 8))) ≡ span from to d
within from to d e = grind (arith, nat_tests)

module _ (from to whole long d : ℕ) (apart : from / 8 < to / 8) (e : whole ≡ min (to / 8) long) (there : d / 8 < long) where
  -- dots of more bytes than one: of the first, of whole ones, and of the last
  pub across : span from to d ≡ (eqb (d / 8) (from / 8) && leb (from % 8) (7 - (7 - d % 8)) || span (from / 8 + 1) whole (d / 8) || eqb (d / 8) (to / 8) && ltb (7 - (7 - d % 8)) (to % 8))
  across = grind (arith, nat_tests)

  pub front_apart : (eqb (d / 8) (from / 8) && leb (from % 8) (7 - (7 - d % 8)) && span (from / 8 + 1) whole (d / 8)) ≡ false
  front_apart = grind (arith, nat_tests)

  pub back_apart : ((eqb (d / 8) (from / 8) && leb (from % 8) (7 - (7 - d % 8)) || span (from / 8 + 1) whole (d / 8)) && (eqb (d / 8) (to / 8) && ltb (7 - (7 - d % 8)) (to % 8))) ≡ false
  back_apart = grind (arith, nat_tests)

-- all bits
pub bit_of_all : (k : ℕ) → k < 8 → bit 255 k ≡ true
unfolding bit
bit_of_all k h = rw (bit_at_ones 8 k h) refl
