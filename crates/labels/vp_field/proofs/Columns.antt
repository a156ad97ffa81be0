-- Columns painted one after the other.
use Rattle.std.proofs.Common.{inl, inr, ◌≡◌, ℕ, ◌+◌, ◌-◌, ◌*◌, ◌/◌, ◌%◌, ◌^◌, ◌<◌, ◌≤◌, Bool, false, eqb, ltb, ◌&&◌, refl, ap, sym, ◌∙◌, arith, List, [], length, get_or, ℤ, pos}
use Rattle.std.proofs.lemmas.Bool.{cases_lt, lt-leb, lt-ltb, le-leb, le-ltb}
use Rattle.std.proofs.lemmas.Bool.Decides.{nat_tests}
use Rattle.std.proofs.lemmas.Nat.Bits.{bit_at-zero, bit_at_cat_low, bit_at_cat_high}
use Rattle.std.proofs.lemmas.Nat.{be_bytes_4}
use Rattle.std.specs.Int.{bit_at, to_be_bytes, from_be_bytes, w32}
use Rattle.vp_dots.proofs.Words.{bit_low, bit_shr}
use Rattle.vp_dots.specs.Dots.{bit, dot, dots, span}
use Rattle.vp_dots.specs.Places.{RowsPainted, words_dot}
use Rattle.vp_dots.specs.Words.{word_dot}
use Rattle.vp_dots.specs.declared.Op.{Op}
use Rattle.vp_glyph.specs.Halves.{half_dot}
use Rattle.vp_dots.proofs.Heights.{rows_same, rows_then}
use Rattle.vp_dots.proofs.Paints.{painted_none, painted_same}
use Rattle.vp_label_size.specs.declared.TheConstants.{BAND_ROWS}

module _ (high : ℕ) (op : Op) (f : ℕ → ℕ → Bool) where
  -- left of the first column with ink
  pub columns_init : (x : ℕ) (a : List (List ℕ)) → ((d k : ℕ) → d < x → f d k ≡ false) → RowsPainted high op (λ d k. ltb d x && f d k) a a
  columns_init x a n = grind (arith, painted_none, cases_lt)

  -- right of the last column with ink, or of the rows' end
  pub columns_all : (x : ℕ) (a b : List (List ℕ)) → ((d k : ℕ) → x ≤ d → k < high → d < dots (get_or a k []) → f d k ≡ false) → RowsPainted high op (λ d k. ltb d x && f d k) a b → RowsPainted high op f a b
  columns_all x a b n p = grind (arith, painted_same, cases_lt)

-- columns behind those that are painted
pub columns_more : (op : Op) (f : ℕ → ℕ → Bool) (x n : ℕ) (a b c : List (List ℕ)) → RowsPainted BAND_ROWS op (λ d k. ltb d x && f d k) a b → RowsPainted BAND_ROWS op (λ d k. span x (x + n) d && f d k) b c
    → RowsPainted BAND_ROWS op (λ d k. ltb d (x + n) && f d k) a c
columns_more op f x n a b c p q = rows_then BAND_ROWS op _ _ _ _ _ _ (λ d k. grind (arith, nat_tests)) (λ d k. grind (arith, nat_tests)) p q

-- columns that show the same line
pub columns_alike : (op : Op) (f : ℕ → ℕ → Bool) (line : List ℕ) (x n : ℕ) (a b : List (List ℕ)) → ((d k : ℕ) → k < BAND_ROWS → x ≤ d → d < x + n → dot line k ≡ f d k)
    → RowsPainted BAND_ROWS op (λ d k. span x (x + n) d && dot line k) a b → RowsPainted BAND_ROWS op (λ d k. span x (x + n) d && f d k) a b
columns_alike op f line x n a b e p = grind (arith, rows_same, cases_lt)

-- columns, as far as the rows go
pub columns_within : (op : Op) (f g : ℕ → ℕ → Bool) (x n : ℕ) (a b : List (List ℕ)) → ((d k : ℕ) → k < BAND_ROWS → x ≤ d → d < x + n → d < dots (get_or a k []) → g d k ≡ f d k)
    → RowsPainted BAND_ROWS op (λ d k. span x (x + n) d && g d k) a b → RowsPainted BAND_ROWS op (λ d k. span x (x + n) d && f d k) a b
columns_within op f g x n a b e p = grind (arith, painted_same, cases_lt, lt-leb, le-leb, le-ltb)

-- columns that are white, as far as the rows go
pub columns_white : (op : Op) (f : ℕ → ℕ → Bool) (x n : ℕ) (a : List (List ℕ)) → ((i k : ℕ) → i < n → k < BAND_ROWS → x + i < dots (get_or a k []) → f (x + i) k ≡ false)
    → RowsPainted BAND_ROWS op (λ d k. span x (x + n) d && f d k) a a
columns_white op f x n a e = record {
  rows_are = λ k h. painted_none op (λ d. span x (x + n) d && f d k) (get_or a k []) (λ d l. elim (cases_lt d x) [
    | inl o ↦ rw (lt-leb x d o) refl
    | inr m ↦ elim (cases_lt d (x + n)) [
      | inl i ↦ (let z : f d k ≡ false = at d k m i h l in grind (arith, nat_tests))
      | inr o ↦ rw (le-leb x d m, le-ltb d (x + n) o) refl
    ]
  ]);
}
  where
    at : (d k : ℕ) → x ≤ d → d < x + n → k < BAND_ROWS → d < dots (get_or a k []) → f d k ≡ false
    at d k m i h l = let w : x + (d - x) ≡ d = omega arith in rw (sym w) (e (d - x) k (omega arith) h (rw w l))

-- 64 columns, of which each row is a word
pub columns_words : (op : Op) (f : ℕ → ℕ → Bool) (x : ℕ) (left : ℤ) (words : List ℕ) (a b : List (List ℕ)) → left ≡ pos x → ((i k : ℕ) → i < 64 → k < BAND_ROWS → x + i < dots (get_or a k []) → word_dot (get_or words k 0) i ≡ f (x + i) k)
    → RowsPainted BAND_ROWS op (words_dot words left 0 BAND_ROWS) a b → RowsPainted BAND_ROWS op (λ d k. span x (x + 64) d && f d k) a b
columns_words op f x left words a b there e p = columns_within op f (λ d k. word_dot (get_or words k 0) (d - x)) x 64 a b
    (λ d k h g i l. let m : x + (d - x) ≡ d = omega arith in e (d - x) k (omega arith) h (rw m l) ∙ ap (λ n. f n k) m)
    (rows_same BAND_ROWS op _ _ _ _ here p)
  where
    here : (d k : ℕ) → k < BAND_ROWS → words_dot words left 0 BAND_ROWS d k ≡ (span x (x + 64) d && word_dot (get_or words k 0) (d - x))
    here d k h =
        let e : k - 0 ≡ k = omega arith in
        rw (there, le-leb 0 k (omega arith), e, lt-ltb k BAND_ROWS h) (elim (cases_lt d x) [
          | inl o ↦ rw (lt-leb x d o) refl
          | inr g ↦ elim (cases_lt d (x + 64)) [
            | inl i ↦ rw (le-leb x d g, lt-ltb (d - x) 64 (omega arith), lt-ltb d (x + 64) i) refl
            | inr o ↦ rw (le-leb x d g, le-ltb (d - x) 64 (omega arith), le-ltb d (x + 64) o) refl
          ]
        ])

-- columns, and as many behind them
pub columns_both : (op : Op) (f : ℕ → ℕ → Bool) (x n : ℕ) (a b c : List (List ℕ)) → RowsPainted BAND_ROWS op (λ d k. span x (x + n) d && f d k) a b
    → RowsPainted BAND_ROWS op (λ d k. span (x + n) (x + n + n) d && f d k) b c → RowsPainted BAND_ROWS op (λ d k. span x (x + 2 * n) d && f d k) a c
columns_both op f x n a b c p q = rows_then BAND_ROWS op _ _ _ _ _ _ (λ d k. grind (arith, nat_tests)) (λ d k. grind (arith, nat_tests)) p q

pub white_half : (x : ℕ) → half_dot 0 x ≡ false
unfolding bit
white_half x = grind (arith, cases_lt, lt-ltb, bit_at-zero, le-ltb)

-- the halves of a word
pub left_half : (a b x : ℕ) → x < 32 → b < 2 ^ 32 → word_dot (a * 2 ^ 32 + b) x ≡ half_dot a x
unfolding bit
left_half a b x l h = rw (lt-ltb x 32 l, lt-ltb x 64 (omega arith)) (ap (λ n. eqb n 1) (bit_at_cat_high a 32 b (63 - x) h (omega arith) ∙ ap (bit_at a) (omega arith)))

pub right_half : (a b x : ℕ) → x < 32 → word_dot (a * 2 ^ 32 + b) (32 + x) ≡ half_dot b x
unfolding bit
right_half a b x l =
    let e : 63 - (32 + x) ≡ 31 - x = omega arith in
    rw (lt-ltb x 32 l, lt-ltb (32 + x) 64 (omega arith), e) (ap (λ n. eqb n 1) (bit_at_cat_low a 32 b (31 - x) (omega arith)))

-- the bytes of half a word, one by one
half_byte : (n j : ℕ) → j < 4 → get_or (to_be_bytes w32 n) j 0 ≡ n / 2 ^ (8 * (3 - j)) % 256
half_byte n j h1 = grind arith

half_row : (n x : ℕ) → x < 32 → dot (to_be_bytes w32 n) x ≡ half_dot n x
unfolding dot
half_row n x l =
    rw (lt-ltb x 32 l) (ap (λ b. bit b (7 - x % 8)) (half_byte n (x / 8) (omega arith)) ∙ bit_low (n / 2 ^ (8 * (3 - x / 8))) (7 - x % 8) (omega arith) ∙ bit_shr n (8 * (3 - x / 8)) (7 - x % 8)
    ∙ ap (bit n) (omega arith))

-- the dots of half a word that is made of bytes
pub half_of_bytes : (bs : List ℕ) (n x : ℕ) → x < 32 → length bs ≡ 4 → ((i : ℕ) → get_or bs i 0 < 256) → n ≡ from_be_bytes w32 bs → half_dot n x ≡ dot bs x
half_of_bytes bs n x h l f e = sym (half_row n x h) ∙ ap (λ b. dot b x) (be_bytes_4 bs n l f e)

-- columns before one
pub before_end : (d end : ℕ) (b : Bool) → d < end → (ltb d end && b) ≡ b
before_end d end b h = rw (lt-ltb d end h) refl

-- columns from one on
pub from_end : (d end : ℕ) (b : Bool) → end ≤ d → (ltb d end && b) ≡ false
from_end d end b h = rw (le-ltb d end h) refl

pub white_before_end : (d end : ℕ) (b : Bool) → b ≡ false → (ltb d end && b) ≡ false
white_before_end d end b e = grind (arith, cases_lt, before_end, from_end)
