-- Bits that change places.
use Rattle.std.proofs.Common.{inl, inr, zero, suc, ◌≡◌, ℕ, ◌+◌, ◌-◌, ◌*◌, ◌/◌, ◌%◌, ◌^◌, ◌<◌, Bool, true, false, not, cond, leb, ◌&&◌, refl, sym, ap, ◌∙◌, arith, bit_and}
use Rattle.std.specs.Int.RustNames.{bit_xor}
use Rattle.std.proofs.lemmas.Bool.{and_parts, cases_lt, lt-leb, le-leb}
use Rattle.vp_dots.specs.Dots.{bit}
use Rattle.vp_dots.proofs.Bits.{bit_of_xor}
use Rattle.vp_dots.proofs.Spans.{bit_of_and}
use Rattle.vp_dots.specs.Swaps.{swap_place}
use Rattle.vp_dots.proofs.Words.{bit_shr, bit_shl, and_false}
use Rattle.vp_dots.proofs.Cuts.{bit_low64}

module _ (n s mask : ℕ) where
  differ_bit : (i : ℕ) → bit (bit_and (bit_xor n (n / 2 ^ s)) mask) i ≡ (cond (bit n (s + i)) (not (bit n i)) (bit n i) && bit mask i)
  differ_bit i = bit_of_and (bit_xor n (n / 2 ^ s)) mask i ∙ ap (λ b. b && bit mask i) (bit_of_xor n (n / 2 ^ s) i ∙ ap (λ b. cond b (not (bit n i)) (bit n i)) (bit_shr n s i))

  -- the difference, moved up
  moved_bit : (i : ℕ) → i < 64 → bit (bit_and (bit_xor n (n / 2 ^ s)) mask * 2 ^ s % 2 ^ 64) i ≡ (cond (bit n i) (not (bit n (i - s))) (bit n (i - s)) && (leb s i && bit mask (i - s)))
  moved_bit i h = bit_low64 (bit_and (bit_xor n (n / 2 ^ s)) mask * 2 ^ s) i h ∙ bit_shl (bit_and (bit_xor n (n / 2 ^ s)) mask) s i ∙ elim (cases_lt i s) [
    | inl l ↦ rw (lt-leb s i l) (sym (and_false _))
    | inr g ↦ rw (le-leb s i g) (differ_bit (i - s) ∙ ap (λ j. cond (bit n j) (not (bit n (i - s))) (bit n (i - s)) && bit mask (i - s)) (let e : s + (i - s) ≡ i = omega arith in e))
  ]

  place : (i : ℕ) (m l : Bool) → cond m (bit n (s + i)) (cond l (bit n (i - s)) (bit n i)) ≡ bit n (cond m (s + i) (cond l (i - s) i))
  place i m l = grind arith

  pub swap_bits : (i : ℕ) → i < 64 → (bit mask i && (leb s i && bit mask (i - s))) ≡ false
      → bit (bit_xor (bit_xor n (bit_and (bit_xor n (n / 2 ^ s)) mask)) (bit_and (bit_xor n (n / 2 ^ s)) mask * 2 ^ s % 2 ^ 64)) i ≡ bit n (swap_place mask s i)
  swap_bits i h e = grind (arith, bit_of_xor, moved_bit, differ_bit, place)

-- a test that each number below n passes
abbrev pub every : ℕ → (ℕ → Bool) → Bool
every zero f = true
every (suc n) f = f n && every n f

pub every_at : (n : ℕ) (f : ℕ → Bool) → every n f ≡ true → (i : ℕ) → i < n → f i ≡ true
every_at zero f e i h = absurd (omega arith)
every_at (suc n) f e i h = let p = and_parts (f n) (every n f) e in elim (cases_lt i n) [
  | inl l ↦ every_at n f p.1 i l
  | inr g ↦ ap f (let q : i ≡ n = omega arith in q) ∙ p.0
]

-- the bits of a mask and those above them are others
pub apart_all : (mask s : ℕ) → every 64 (λ i. not (bit mask i && (leb s i && bit mask (i - s)))) ≡ true → (i : ℕ) → i < 64 → (bit mask i && (leb s i && bit mask (i - s))) ≡ false
apart_all mask s e i h = not_true _ (every_at 64 (λ j. not (bit mask j && (leb s j && bit mask (j - s)))) e i h)
  where
    not_true : (b : Bool) → not b ≡ true → b ≡ false
    not_true true h = cc
    not_true false h = refl
