-- Words cut out of rows.
use Rattle.std.proofs.Common.{inl, inr, ◌≡◌, ℕ, ◌+◌, ◌-◌, ◌*◌, ◌/◌, ◌%◌, ◌^◌, ◌<◌, ◌≤◌, Bool, true, false, not, cond, eqb, ltb, leb, ◌&&◌, sym, ap, ◌∙◌, arith, List, bit_and, bit_or, length, get_or, replicate, ℤ, pos, ◌+ℤ◌}
use Rattle.std.specs.Int.{bit_at, from_be_bytes, w64}
use lib.Lanes.{chunk}
use Rattle.std.proofs.Math.Nat.{div-le_self}
use Rattle.std.proofs.lemmas.Nat.{be_bytes_8}
use Rattle.std.proofs.lemmas.Nat.Bits.{bit_at-lt, bit_at-zero, bit_at_not, bit_at_ones, bit_at_above, bit_at_cat_low}
use Rattle.std.proofs.lemmas.List.{get_or_past, get_or-replicate, length-replicate}
use Rattle.std.proofs.lemmas.Simd.{get_or-chunk}
use Rattle.std.proofs.lemmas.Bool.{cases_lt, lt-ltb, le-ltb, lt-leb, le-leb}
use Rattle.std.proofs.lemmas.Bool.Decides.{nat_tests}
use Rattle.vp_dots.specs.Dots.{bit, dot, shifted}
use Rattle.vp_dots.specs.Painting.{Painted}
use Rattle.vp_dots.specs.declared.Op.TheVariants.{Black}
use Rattle.vp_dots.proofs.Bits.{bit_of_or}
use Rattle.vp_dots.proofs.Spans.{bit_of_and}
use Rattle.vp_dots.proofs.Rows.{dot_at}
use Rattle.vp_dots.proofs.Shifts.{shifted_meets}
use Rattle.vp_dots.specs.Words.{word_dot}
use Rattle.vp_dots.proofs.Words.{word_row, bit_shr, bit_shl, bit_above}

-- the dots of a word that is made of bytes
pub word_of_bytes : (bs : List ℕ) (n x : ℕ) → length bs ≡ 8 → ((i : ℕ) → get_or bs i 0 < 256) → n ≡ from_be_bytes w64 bs → word_dot n x ≡ dot bs x
word_of_bytes bs n x l h e = sym (word_row n x) ∙ ap (λ b. dot b x) (be_bytes_8 bs n l h e)

pub dot_chunk : (i x : ℕ) (row : List ℕ) → x < 64 → dot (chunk i 8 row) x ≡ dot row (8 * i + x)
unfolding dot
dot_chunk i x row h =
    let q : (8 * i + x) / 8 ≡ i + x / 8 = omega arith in
    let r : (8 * i + x) % 8 ≡ x % 8 = omega arith in
    rw (q, r) (ap (λ b. bit b (7 - x % 8)) (get_or-chunk i 8 row (x / 8) 0 (omega arith)))

black_alone : (b : Bool) → cond b true false ≡ b
black_alone b = grind arith

-- white bytes
white : (n x : ℕ) → dot (replicate {A = ℕ} n 0) x ≡ false
unfolding dot bit
white n x = grind (arith, get_or-replicate, get_or_past, length-replicate, bit_at-zero)

-- what a painter left of the row in white bytes
pub cut_end : (row bytes : List ℕ) (n from x : ℕ) (at : ℤ) → at +ℤ pos (from + x) ≡ pos x → Painted Black (shifted at (dot row)) (replicate 8 0) bytes
    → word_dot n x ≡ dot bytes x → x < 64 → word_dot n x ≡ dot row (from + x)
cut_end row bytes n from x at e p is l =
    is ∙ p.dots_are x l ∙ ap (λ b. cond b true (dot (replicate 8 0) x)) (shifted_meets at (dot row) x (from + x) (sym e)) ∙ ap (λ b. cond (dot row (from + x)) true b) (white 8 x) ∙ black_alone _

-- a bit below the 64th
pub bit_low64 : (n k : ℕ) → k < 64 → bit (n % 2 ^ 64) k ≡ bit n k
unfolding bit
bit_low64 n k h = ap (λ x. eqb x 1) (sym (bit_at_cat_low (n / 2 ^ 64) 64 (n % 2 ^ 64) k h) ∙ ap (λ x. bit_at x k) (let e : n / 2 ^ 64 * 2 ^ 64 + n % 2 ^ 64 ≡ n = omega arith in e))

bit_above8 : (n k : ℕ) → n < 256 → 8 ≤ k → bit n k ≡ false
unfolding bit
bit_above8 n k p h = ap (λ x. eqb x 1) (bit_at_above n 8 k p h)

-- nine bytes, moved to the left by less than one
pub cut_nine : (row : List ℕ) (n b from x : ℕ) → x < 64 → b < 256 → ((u : ℕ) → u < 64 → word_dot n u ≡ dot row (8 * (from / 8) + u)) → b ≡ get_or row (from / 8 + 8) 0
    → word_dot (bit_or (n * 2 ^ (from % 8) % 2 ^ 64) (b / 2 ^ (8 - from % 8))) x ≡ dot row (from + x)
cut_nine row n b from x l p h e =
    let s = from % 8 in
    let k = 63 - x in
    rw (lt-ltb x 64 l) (bit_of_or _ _ k
    ∙ ap (λ c. cond (bit (b / 2 ^ (8 - s)) k) true c) (bit_low64 (n * 2 ^ s) k (omega arith) ∙ bit_shl n s k)
    ∙ ap (λ c. cond c true (leb s k && bit n (k - s))) (bit_shr b (8 - s) k)
    ∙ elim (cases_lt k s) [
      | inl m ↦ rw (lt-leb s k m) (black_alone _ ∙ ap (λ c. bit c (8 - s + k)) e ∙ sym (dot_at row (from / 8 + 8) (8 - s + k) (omega arith)) ∙ ap (dot row) (omega arith))
      | inr g ↦ rw (le-leb s k g, bit_above8 b (8 - s + k) p (omega arith)) (ap (bit n) (let q : k - s ≡ 63 - (x + s) = omega arith in q) ∙ inside (x + s) (omega arith) ∙ ap (dot row) (omega arith))
    ])
  where
    inside : (u : ℕ) → u < 64 → bit n (63 - u) ≡ dot row (8 * (from / 8) + u)
    inside u m = ap (λ t. t && bit n (63 - u)) (sym (lt-ltb u 64 m)) ∙ h u m

of_not : (x : ℕ) → x < 2 → eqb (1 - x) 1 ≡ not (eqb x 1)
of_not x p = grind (arith, nat_tests)

pub bit_not64 : (n k : ℕ) → n < 2 ^ 64 → k < 64 → bit (2 ^ 64 - 1 - n) k ≡ not (bit n k)
unfolding bit
bit_not64 n k p q = rw (bit_at_not w64 n k p q) (of_not _ (bit_at-lt n k))

pub bit_of_and_not64 : (a b k : ℕ) → b < 2 ^ 64 → k < 64 → bit (bit_and a (2 ^ 64 - 1 - b)) k ≡ cond (bit b k) false (bit a k)
bit_of_and_not64 a b k p q = grind (arith, bit_of_and, bit_not64)

ones : (k : ℕ) → k < 64 → bit (2 ^ 64 - 1) k ≡ true
unfolding bit
ones k h = ap (λ x. eqb x 1) (bit_at_ones 64 k h)

pub first_bits : (n x : ℕ) → n < 64 → word_dot (2 ^ 64 - 1 - (2 ^ 64 - 1) / 2 ^ n) x ≡ ltb x n
first_bits n x h = grind (arith, cases_lt, lt-ltb, bit_not64, div-le_self, bit_shr, bit_above, le-ltb, ones)

pub all_bits : (x : ℕ) → word_dot (2 ^ 64 - 1) x ≡ ltb x 64
all_bits x = grind (arith, lt-ltb, ones, le-ltb)
