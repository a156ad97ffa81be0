-- Eight bits out of two bytes.
use Rattle.std.proofs.Common.{inl, inr, ◌≡◌, ℕ, ◌+◌, ◌-◌, ◌*◌, ◌/◌, ◌%◌, ◌^◌, ◌<◌, min, false, cond, eqb, ltb, leb, ◌&&◌, refl, sym, ap, ◌∙◌, arith, List, bit_and, get_or}
use Rattle.std.specs.Int.{bit_at}
use Rattle.std.proofs.lemmas.Nat.{shr-shr}
use Rattle.std.proofs.lemmas.Nat.Bits.{bit_at_and, bit_at_ones, bit_at-lt, bit_at-zero, bit_at_cat_low, bit_at_cat_high}
use Rattle.std.proofs.lemmas.Bool.{cases_lt, lt-ltb, le-ltb, lt-leb, le-leb}
use Rattle.vp_dots.specs.Dots.{bit, dot}
use Rattle.vp_dots.proofs.Rows.{dot_at}

bit_at_part : (n s k : ℕ) → k < 8 → bit_at (bit_and (n / 2 ^ s) 255) k ≡ bit_at n (k + s)
bit_at_part n s k h =
    bit_at_and (n / 2 ^ s) 255 k ∙ ap (min (bit_at (n / 2 ^ s) k)) (bit_at_ones 8 k h)
    ∙ (let l = bit_at-lt (n / 2 ^ s) k in let m : min (bit_at (n / 2 ^ s) k) 1 ≡ bit_at (n / 2 ^ s) k = omega arith in m)
    ∙ ap (λ x. x % 2) (shr-shr n s k) ∙ ap (λ x. n / 2 ^ x % 2) (let e : s + k ≡ k + s = omega arith in e)

pub window_bit : (hi lo s k : ℕ) → lo < 256 → k < 8 → bit (bit_and ((hi * 256 + lo) / 2 ^ s) 255) k ≡ cond (ltb (k + s) 8) (bit lo (k + s)) (bit hi (k + s - 8))
unfolding bit
window_bit hi lo s k p h = rw (bit_at_part (hi * 256 + lo) s k h) (elim (cases_lt (k + s) 8) as (λ _. eqb (bit_at (hi * 256 + lo) (k + s)) 1 ≡ cond (ltb (k + s) 8) (eqb (bit_at lo (k + s)) 1) (eqb (bit_at hi (k + s - 8)) 1)) [
  | inl l ↦ rw (lt-ltb (k + s) 8 l) (rw (bit_at_cat_low hi 8 lo (k + s) l) refl)
  | inr g ↦ rw (le-ltb (k + s) 8 g) (rw (bit_at_cat_high hi 8 lo (k + s) p g) refl)
])

zero_bit : (k : ℕ) → bit 0 k ≡ false
unfolding bit
zero_bit k = ap (λ n. eqb n 1) (bit_at-zero k)

module _ (source : List ℕ) (s i k : ℕ) (little : s < 8) (small : k < 8) where
  -- the window on a source moved to the left
  pub left_bits : cond (ltb (k + (8 - s)) 8) (bit (get_or source (i + 1) 0) (k + (8 - s))) (bit (get_or source i 0) (k + (8 - s) - 8)) ≡ dot source (8 * i + (7 - k) + s)
  left_bits = elim (cases_lt (k + (8 - s)) 8) [
    | inl l ↦ rw (lt-ltb (k + (8 - s)) 8 l) (sym (dot_at source (i + 1) (k + (8 - s)) l) ∙ ap (dot source) (omega arith))
    | inr g ↦ rw (le-ltb (k + (8 - s)) 8 g) (sym (dot_at source i (k + (8 - s) - 8) (omega arith)) ∙ ap (dot source) (omega arith))
  ]

  -- the window on a source moved to the right
  pub right_bits : cond (ltb (k + s) 8) (bit (get_or source i 0) (k + s)) (bit (cond (ltb 0 i) (get_or source (i - 1) 0) 0) (k + s - 8)) ≡ (leb s (8 * i + (7 - k)) && dot source (8 * i + (7 - k) - s))
  right_bits = elim (cases_lt (k + s) 8) [
    | inl l ↦ rw (lt-ltb (k + s) 8 l) (rw (le-leb s (8 * i + (7 - k)) (omega arith)) (sym (dot_at source i (k + s) l) ∙ ap (dot source) (omega arith)))
    | inr g ↦ rw (le-ltb (k + s) 8 g) (elim (cases_lt 0 i) [
      | inl m ↦ rw (lt-ltb 0 i m, le-leb s (8 * i + (7 - k)) (omega arith)) (sym (dot_at source (i - 1) (k + s - 8) (omega arith)) ∙ ap (dot source) (omega arith))
      | inr n ↦ rw (le-ltb 0 i n, lt-leb s (8 * i + (7 - k)) (omega arith)) (zero_bit (k + s - 8))
    ])
  ]

  -- the same past the first byte
  pub right_bits_later : 0 < i → cond (ltb (k + s) 8) (bit (get_or source i 0) (k + s)) (bit (get_or source (i - 1) 0) (k + s - 8)) ≡ (leb s (8 * i + (7 - k)) && dot source (8 * i + (7 - k) - s))
  right_bits_later m = ap (λ b. cond (ltb (k + s) 8) (bit (get_or source i 0) (k + s)) (bit (cond b (get_or source (i - 1) 0) 0) (k + s - 8))) (sym (lt-ltb 0 i m)) ∙ right_bits
