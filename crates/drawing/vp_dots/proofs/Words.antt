-- The bits of words, and of their bytes.
use Rattle.std.proofs.Common.{inl, inr, ◌≡◌, ℕ, zero, suc, ◌+◌, ◌-◌, ◌*◌, ◌/◌, ◌%◌, ◌^◌, ◌<◌, ◌≤◌, Bool, true, false, eqb, leb, ◌&&◌, ◌||◌, eq-eqb, refl, sym, ap, ◌∙◌, arith, bit_and, get_or}
use Rattle.std.specs.Int.{bit_at, byte_at, bytes_high_first, to_be_bytes, w64}
use Rattle.std.proofs.lemmas.Nat.{shr-shr, pow-add, pow_pos}
use Rattle.std.proofs.lemmas.Nat.Bits.{bit_at-zero, bit_at_cat_low, bit_at_cat_high, bit_at_above}
use Rattle.std.proofs.lemmas.Bool.{cases_eq, cases_lt, lt-ltb, le-ltb, lt-leb, le-leb, ne_eqb}
use Rattle.vp_dots.proofs.Spans.{bit_of_and, bit_of_all}
use Rattle.vp_dots.specs.Dots.{bit, dot}
use Rattle.vp_dots.proofs.Rows.{dot_past}
use Rattle.vp_dots.specs.Words.{word_dot}

pub and_true : (b : Bool) → (b && true) ≡ b
and_true b = grind arith

pub and_false : (b : Bool) → (b && false) ≡ false
and_false b = grind arith

pub or_false : (b : Bool) → b ≡ (b || false)
or_false b = grind arith

-- a bit of a number moved to the right
pub bit_shr : (n s k : ℕ) → bit (n / 2 ^ s) k ≡ bit n (s + k)
unfolding bit
bit_shr n s k = ap (λ x. eqb (x % 2) 1) (shr-shr n s k)

-- a bit of a byte cut off
pub bit_low : (n k : ℕ) → k < 8 → bit (n % 256) k ≡ bit n k
unfolding bit
bit_low n k h = ap (λ x. eqb x 1) (sym (bit_at_cat_low (n / 256) 8 (n % 256) k h) ∙ ap (λ x. bit_at x k) (let e : n / 256 * 2 ^ 8 + n % 256 ≡ n = omega arith in e))

-- past a number there is no bit
pub bit_above : (n k : ℕ) → n < 2 ^ 64 → 64 ≤ k → bit n k ≡ false
unfolding bit
bit_above n k p h = ap (λ x. eqb x 1) (bit_at_above n 64 k p h)

bytes_pow : (i : ℕ) → 256 ^ i ≡ 2 ^ (8 * i)
bytes_pow zero = refl
bytes_pow (suc i) = ap (λ x. 256 ^ x) (let e : suc i ≡ i + 1 = omega arith in e) ∙ pow-add 256 i 1 ∙ ap (λ x. x * 256) (bytes_pow i) ∙ sym (ap (λ x. 2 ^ x) (let e : 8 * suc i ≡ 8 * i + 8 = omega arith in e) ∙ pow-add 2 (8 * i) 8)

byte_is : (i n : ℕ) → byte_at i n ≡ n / 2 ^ (8 * i) % 256
byte_is i n = grind (arith, bytes_pow)

high_first : (m n j : ℕ) → j < m → get_or (bytes_high_first m n) j 0 ≡ byte_at (m - 1 - j) n
high_first zero n j h = absurd (omega arith)
high_first (suc m) n zero h = ap (λ x. byte_at x n) (omega arith)
high_first (suc m) n (suc j) h = high_first m n j (omega arith) ∙ ap (λ x. byte_at x n) (omega arith)

-- bit k of byte j of a word
pub word_byte : (n j k : ℕ) → j < 8 → k < 8 → bit (get_or (to_be_bytes w64 n) j 0) k ≡ bit n (63 - (8 * j + (7 - k)))
word_byte n j k p h = ap (λ x. bit x k) (high_first 8 n j p ∙ byte_is (7 - j) n) ∙ bit_low (n / 2 ^ (8 * (7 - j))) k h ∙ bit_shr n (8 * (7 - j)) k ∙ ap (bit n) (omega arith)

-- the bytes of a word as a row
pub word_row : (n x : ℕ) → dot (to_be_bytes w64 n) x ≡ word_dot n x
unfolding dot
word_row n x = elim (cases_lt x 64) [
  | inl l ↦ rw (lt-ltb x 64 l) (word_byte n (x / 8) (7 - x % 8) (omega arith) (omega arith) ∙ ap (bit n) (omega arith))
  | inr g ↦ rw (le-ltb x 64 g) (dot_past (to_be_bytes w64 n) x (omega arith))
]

-- a word moved to the right
pub word_shr : (n s x : ℕ) → n < 2 ^ 64 → x < 64 → bit (n / 2 ^ s) (63 - x) ≡ (leb s x && bit n (63 - (x - s)))
word_shr n s x p h = grind (arith, bit_shr, lt-leb, bit_above, le-leb)

-- a bit of a number moved to the left
pub bit_shl : (a n k : ℕ) → bit (a * 2 ^ n) k ≡ (leb n k && bit a (k - n))
unfolding bit
bit_shl a n k =
    let e : a * 2 ^ n ≡ a * 2 ^ n + 0 = omega arith in
    ap (λ x. eqb (bit_at x k) 1) e ∙ elim (cases_lt k n) as (λ _. eqb (bit_at (a * 2 ^ n + 0) k) 1 ≡ (leb n k && eqb (bit_at a (k - n)) 1)) [
      | inl l ↦ rw (lt-leb n k l) (ap (λ x. eqb x 1) (bit_at_cat_low a n 0 k l ∙ bit_at-zero k))
      | inr g ↦ rw (le-leb n k g) (ap (λ x. eqb x 1) (bit_at_cat_high a n 0 k (pow_pos n) g))
    ]

-- what a word loses on the right
pub lost_bit : (word s k : ℕ) → s < 8 → k < 8 → bit (bit_and (bit_and word 255 * 256 / 2 ^ s) 255) k ≡ (leb (8 - s) k && bit word (k - (8 - s)))
lost_bit word s k p h =
    bit_of_and _ 255 k ∙ ap (λ b. bit (bit_and word 255 * 256 / 2 ^ s) k && b) (bit_of_all k h) ∙ and_true _
    ∙ bit_shr (bit_and word 255 * 256) s k ∙ bit_shl (bit_and word 255) 8 (s + k) ∙ elim (cases_lt (s + k) 8) [
      | inl l ↦ rw (lt-leb 8 (s + k) l, lt-leb (8 - s) k (omega arith)) refl
      | inr g ↦ rw (le-leb 8 (s + k) g, le-leb (8 - s) k (omega arith)) (bit_of_and word 255 (s + k - 8) ∙ ap (λ b. bit word (s + k - 8) && b) (bit_of_all (s + k - 8) (omega arith)) ∙ and_true _ ∙ ap (bit word) (omega arith))
    ]

module _ (word far d : ℕ) (fits : word < 2 ^ 64) where
  -- the dots that stay in eight bytes
  pub front : d / 8 < far / 8 + 8 → (leb (8 * (far / 8)) d && word_dot (word / 2 ^ (far % 8)) (d - 8 * (far / 8))) ≡ (leb far d && word_dot word (d - far))
  front l = grind (arith, lt-leb, le-leb, lt-ltb, word_shr)

  module _ (rest : ℕ) (is : (k : ℕ) → k < 8 → bit rest k ≡ (leb (8 - far % 8) k && bit word (k - (8 - far % 8)))) where
    -- and the others
    pub whole : (leb far d && word_dot word (d - far)) ≡ (leb (8 * (far / 8)) d && word_dot (word / 2 ^ (far % 8)) (d - 8 * (far / 8)) || eqb (d / 8) (far / 8 + 8) && bit rest (7 - d % 8))
    whole = grind (arith, cases_lt, ne_eqb, front, le-leb, le-ltb, cases_eq, eq-eqb, lt-ltb, lt-leb)

  pub apart : (rest : ℕ) → (leb (8 * (far / 8)) d && word_dot (word / 2 ^ (far % 8)) (d - 8 * (far / 8)) && (eqb (d / 8) (far / 8 + 8) && bit rest (7 - d % 8))) ≡ false
  apart rest = grind arith

-- one of the bytes of a word
pub byte_bit : (word i j k : ℕ) → j < 8 → k < 8 → bit (bit_and (word / 2 ^ (56 - 8 * j)) 255) k ≡ (leb (8 * i) (8 * (i + j) + (7 - k)) && word_dot word (8 * (i + j) + (7 - k) - 8 * i))
byte_bit word i j k p h = grind (arith, le-leb, lt-ltb, bit_of_and, bit_of_all, bit_shr)

-- a word of few dots, in eight bytes
pub narrow_bytes : (word at d : ℕ) → word < 2 ^ 64 → ((x : ℕ) → 56 < x → word_dot word x ≡ false)
    → (leb (8 * (at / 8)) d && word_dot (word / 2 ^ (at % 8)) (d - 8 * (at / 8))) ≡ (leb at d && word_dot word (d - at))
narrow_bytes word h d fits few = grind (arith, cases_lt, front, le-ltb)
