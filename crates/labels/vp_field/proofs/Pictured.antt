-- Pictures painted row by row.
use Rattle.std.proofs.Common.{inl, inr, ◌≡◌, ℕ, zero, suc, ◌+◌, ◌-◌, ◌*◌, ◌/◌, ◌%◌, ◌<◌, ◌≤◌, ◌≢◌, Bool, true, false, eqb, ◌&&◌, ◌||◌, sym, ap, ◌∙◌, arith, List, [], get_or, set, get_or-set_same, get_or-set_other, length, Option, Some, ℤ, pos}
use Rattle.std.specs.Prelude.{unwrap_or}
use Rattle.std.specs.Int.{bit_at}
use Rattle.std.proofs.lemmas.Bool.{cases_eq, cases_lt, cases_Bool, lt-ltb, le-ltb}
use Rattle.vp_dots.specs.Dots.{bit, dot}
use Rattle.vp_dots.specs.Painting.{Painted}
use Rattle.vp_dots.specs.Places.{RowsPainted}
use Rattle.vp_dots.specs.declared.Op.{Op}
use Rattle.vp_dots.proofs.Paints.{painted_none, painted_same, painted_then}
use Rattle.vp_dots.proofs.Rows.{dot_past}
use Rattle.vp_format.specs.Pictures.{Picture, value, nibble}
use Rattle.vp_label_size.specs.declared.TheConstants.{BAND_ROWS}
use Rattle.vp_field.specs.Axes.{dot_on, laid}
use Rattle.vp_field.specs.Contents.{picture_dot}
use Rattle.vp_field.specs.Drawn.{part}
use Rattle.vp_field.specs.Rows.{row_dot}
use Rattle.vp_field.specs.declared.axis.Axis.{Axis}
use Rattle.vp_field.specs.declared.axis.Lines.TheVariants.{Along}
use Rattle.vp_field.specs.Places.{at_place}
use Rattle.vp_field.proofs.Shown.{rows_none}

same_bit : (a b j k : ℕ) → bit_at a j ≡ bit_at b k → bit a j ≡ bit b k
unfolding bit
same_bit a b j k e = ap (λ n. eqb n 1) e

low_half : (b k : ℕ) → k < 4 → bit b k ≡ bit (b % 16) k
low_half b zero l = same_bit b (b % 16) 0 0 (let e : b / 1 % 2 ≡ b % 16 / 1 % 2 = omega arith in e)
low_half b (suc zero) l = same_bit b (b % 16) 1 1 (let e : b / 2 % 2 ≡ b % 16 / 2 % 2 = omega arith in e)
low_half b (suc (suc zero)) l = same_bit b (b % 16) 2 2 (let e : b / 4 % 2 ≡ b % 16 / 4 % 2 = omega arith in e)
low_half b (suc (suc (suc zero))) l = same_bit b (b % 16) 3 3 (let e : b / 8 % 2 ≡ b % 16 / 8 % 2 = omega arith in e)
low_half b (suc (suc (suc (suc k)))) l = absurd (omega arith)

high_half : (b k : ℕ) → k < 4 → bit b (k + 4) ≡ bit (b / 16) k
high_half b zero l = same_bit b (b / 16) 4 0 (let e : b / 16 % 2 ≡ b / 16 / 1 % 2 = omega arith in e)
high_half b (suc zero) l = same_bit b (b / 16) 5 1 (let e : b / 32 % 2 ≡ b / 16 / 2 % 2 = omega arith in e)
high_half b (suc (suc zero)) l = same_bit b (b / 16) 6 2 (let e : b / 64 % 2 ≡ b / 16 / 4 % 2 = omega arith in e)
high_half b (suc (suc (suc zero))) l = same_bit b (b / 16) 7 3 (let e : b / 128 % 2 ≡ b / 16 / 8 % 2 = omega arith in e)
high_half b (suc (suc (suc (suc k)))) l = absurd (omega arith)

-- a dot of a row of bytes is one of four of a place
dot_nibble : (row : List ℕ) (x : ℕ) → dot row x ≡ bit (nibble row (x / 4)) (3 - x % 4)
unfolding dot nibble
dot_nibble row x = elim (cases_lt (x % 8) 4) [
  | inl l ↦ (let i : x / 4 / 2 ≡ x / 8 = omega arith in
      let r : x / 4 % 2 ≡ 0 = omega arith in
      let k : 7 - x % 8 ≡ (3 - x % 4) + 4 = omega arith in
      rw (i, r, k) (high_half (get_or row (x / 8) 0) (3 - x % 4) (omega arith)))
  | inr g ↦ (let i : x / 4 / 2 ≡ x / 8 = omega arith in
      let r : x / 4 % 2 ≡ 1 = omega arith in
      let k : 7 - x % 8 ≡ 3 - x % 4 = omega arith in
      rw (i, r, k) (low_half (get_or row (x / 8) 0) (3 - x % 4) (omega arith)))
]

-- a decoded row has the dots of the picture
pub row_is : (p : Picture) (y : ℕ) (row : List ℕ) → length row ≡ p.row_bytes → y < p.rows → ((x : ℕ) → x < 2 * length row → nibble row x ≡ value p y x) → (x : ℕ) → dot row x ≡ picture_dot p x y
unfolding picture_dot
row_is p y row e h v x = grind (arith, cases_lt, lt-ltb, dot_nibble, le-ltb, dot_past)

-- on other rows than its own a row of a picture has no ink
elsewhere : (row : List ℕ) (y : ℕ) (u v : ℤ) → v ≢ pos y → at_place (λ n. at_place (λ m. row_dot row y m n) u) v ≡ false
elsewhere row y u v h1 = grind arith

on_its_own : (row : List ℕ) (y : ℕ) (u v : ℤ) → v ≡ pos y → at_place (λ n. at_place (λ m. row_dot row y m n) u) v ≡ at_place (λ m. row_dot row y m y) u
on_its_own row y u v e = ap (λ z. at_place (λ n. at_place (λ m. row_dot row y m n) u) z) e

some_is : (a b : ℕ) → Some a ≡ Some b → a ≡ b
some_is a b e = ap (λ (o : Option ℕ). unwrap_or o 0) e

-- a row of a picture painted on row k of a band
pub row_painted : (op : Op) (columns rows : Axis) (first y k : ℕ) (row : List ℕ) (a : List (List ℕ)) (new : List ℕ) → k < length a → dot_on rows (pos (first + k)) ≡ pos y
    → ((j : ℕ) → j < BAND_ROWS → dot_on rows (pos (first + j)) ≡ pos y → Some k ≡ Some j)
    → Painted op (λ p. at_place (λ m. row_dot row y m y) (dot_on columns (pos p))) (get_or a k []) new
    → RowsPainted BAND_ROWS op (λ x j. laid Along columns rows (row_dot row y) (pos x) (pos (first + j))) a (set a k new)
row_painted op columns rows first y k row a new l e only p = record {
  rows_are = λ j h. elim (cases_eq j k) [
    | inl s ↦ rw (s, get_or-set_same a k new [] l) (painted_same op _ (λ x. laid Along columns rows (row_dot row y) (pos x) (pos (first + k))) (get_or a k []) new
        (λ d m. sym (on_its_own row y (dot_on columns (pos d)) (dot_on rows (pos (first + k))) e)) p)
    | inr n ↦ rw (get_or-set_other a k j new [] n) (painted_none op (λ x. laid Along columns rows (row_dot row y) (pos x) (pos (first + j))) (get_or a j [])
        (λ d m. elsewhere row y (dot_on columns (pos d)) (dot_on rows (pos (first + j))) (λ s. n (sym (some_is k j (only j h s))))))
  ];
}

-- a row of a picture that falls on no row of a band
pub row_unseen : (op : Op) (columns rows : Axis) (first y : ℕ) (row : List ℕ) (a : List (List ℕ)) → ((j : ℕ) → j < BAND_ROWS → dot_on rows (pos (first + j)) ≢ pos y)
    → RowsPainted BAND_ROWS op (λ x j. laid Along columns rows (row_dot row y) (pos x) (pos (first + j))) a a
row_unseen op columns rows first y row a none = grind (arith, painted_none, elsewhere)

module _ (op : Op) (columns rows : Axis) (first : ℕ) (f : ℕ → ℕ → Bool) where
  no_line : (from to : ℕ) → to ≤ from → (u v : ℤ) → at_place (λ n. at_place (λ m. part from to f m n) u) v ≡ false
  no_line from to h1 u v = grind arith

  one_line : (from y : ℕ) (row : List ℕ) → from ≤ y → ((x : ℕ) → dot row x ≡ f x y) → (u v : ℤ)
      → at_place (λ n. at_place (λ m. part from (y + 1) f m n) u) v ≡ (at_place (λ n. at_place (λ m. part from y f m n) u) v || at_place (λ n. at_place (λ m. row_dot row y m n) u) v)
  one_line from y row h1 h2 u v = grind (arith, cases_eq)

  other_lines : (from y : ℕ) (row : List ℕ) (u v : ℤ) → (at_place (λ n. at_place (λ m. part from y f m n) u) v && at_place (λ n. at_place (λ m. row_dot row y m n) u) v) ≡ false
  other_lines from y row u v = grind arith

  all_lines : (h from to : ℕ) → ((m n : ℕ) → f m n ≡ true → n < h) → (u v : ℤ) → ((n : ℕ) → n < h → v ≡ pos n → (from ≤ n) × (n < to))
      → at_place (λ n. at_place (λ m. part from to f m n) u) v ≡ at_place (λ n. at_place (λ m. f m n) u) v
  all_lines h from to h1 u v h2 = grind (arith, cases_Bool)

  -- no row is painted yet
  pub lines_init : (from to : ℕ) (a : List (List ℕ)) → to ≤ from → RowsPainted BAND_ROWS op (λ x k. laid Along columns rows (part from to f) (pos x) (pos (first + k))) a a
  lines_init from to a l = rows_none op (λ x k. laid Along columns rows (part from to f) (pos x) (pos (first + k))) a (λ x k. no_line from to l (dot_on columns (pos x)) (dot_on rows (pos (first + k))))

  -- one more row
  pub lines_more : (from y : ℕ) (row : List ℕ) (a b c : List (List ℕ)) → from ≤ y → ((x : ℕ) → dot row x ≡ f x y)
      → RowsPainted BAND_ROWS op (λ x k. laid Along columns rows (part from y f) (pos x) (pos (first + k))) a b
      → RowsPainted BAND_ROWS op (λ x k. laid Along columns rows (row_dot row y) (pos x) (pos (first + k))) b c
      → RowsPainted BAND_ROWS op (λ x k. laid Along columns rows (part from (y + 1) f) (pos x) (pos (first + k))) a c
  lines_more from y row a b c l e p q = record {
    rows_are = λ k h. painted_then op _ _ (λ x. laid Along columns rows (part from (y + 1) f) (pos x) (pos (first + k))) _ _ _ (p.rows_are k h) (q.rows_are k h)
        (λ d m. one_line from y row l e (dot_on columns (pos d)) (dot_on rows (pos (first + k))))
        (λ d m. other_lines from y row (dot_on columns (pos d)) (dot_on rows (pos (first + k))));
  }

  -- all rows that fall on the band
  pub lines_all : (h from to : ℕ) (ink : ℕ → ℕ → Bool) (a b : List (List ℕ)) → ((m n : ℕ) → f m n ≡ true → n < h)
      → ((k n : ℕ) → k < BAND_ROWS → n < h → dot_on rows (pos (first + k)) ≡ pos n → (from ≤ n) × (n < to))
      → ((x k : ℕ) → laid Along columns rows f (pos x) (pos (first + k)) ≡ ink x k)
      → RowsPainted BAND_ROWS op (λ x k. laid Along columns rows (part from to f) (pos x) (pos (first + k))) a b
      → RowsPainted BAND_ROWS op ink a b
  lines_all h from to ink a b i g e p = record {
    rows_are = λ k l. painted_same op _ (λ x. ink x k) _ _ (λ d m. all_lines h from to i (dot_on columns (pos d)) (dot_on rows (pos (first + k))) (λ n o s. g k n l o s) ∙ e d k) (p.rows_are k l);
  }
