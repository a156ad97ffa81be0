-- Rows painted one after the other.
use Rattle.std.proofs.Common.{ℤ, pos, ◌≡◌, ℕ, ◌+◌, ◌<◌, ◌≤◌, Bool, true, false, ltb, ◌&&◌, arith, List, [], length, get_or, set, get_or-set_same, get_or-set_other}
use Rattle.std.proofs.lemmas.Grind.{common_steps}
use Rattle.std.proofs.lemmas.Bool.{lt-ltb, le-ltb, lt-leb, le-leb}
use Rattle.std.proofs.lemmas.List.{get_or_past}
use Rattle.std.proofs.lemmas.Bool.Decides.{nat_tests}
use Rattle.vp_dots.specs.Dots.{bit, shifted}
use Rattle.vp_dots.specs.Painting.{Painted}
use Rattle.vp_dots.specs.Words.{word_dot, IsReady}
use Rattle.vp_dots.specs.Places.{placed, words_dot, RowsPainted}
use Rattle.vp_dots.specs.declared.Op.{Op}
use Rattle.vp_dots.proofs.Paints.{painted_same}
use Rattle.vp_dots.proofs.Shifts.{shifted_none, shifted_same}

module _ (high : ℕ) (op : Op) (f : ℕ → ℕ → Bool) where
  -- above the first row with ink
  pub rows_init : (y : ℕ) (a : List (List ℕ)) → ((x k : ℕ) → k < y → f x k ≡ false) → RowsPainted high op (λ x k. ltb k y && f x k) a a
  rows_init y a n = grind arith

  -- one more row
  pub rows_more : (y : ℕ) (a b : List (List ℕ)) (row : List ℕ) → y < length b → y < high → RowsPainted high op (λ x k. ltb k y && f x k) a b
      → Painted op (λ x. f x y) (get_or b y []) row → RowsPainted high op (λ x k. ltb k (y + 1) && f x k) a (set b y row)
  rows_more y a b row l i p q = grind (arith, get_or-set_same, nat_tests, get_or-set_other, painted_same)

  -- a row with no ink
  pub rows_skip : (y : ℕ) (a b : List (List ℕ)) → RowsPainted high op (λ x k. ltb k y && f x k) a b → ((x : ℕ) → f x y ≡ false) → RowsPainted high op (λ x k. ltb k (y + 1) && f x k) a b
  rows_skip y a b p n = grind arith

  -- below the last row with ink
  pub rows_all : (y : ℕ) (a b : List (List ℕ)) → ((x k : ℕ) → y ≤ k → k < high → f x k ≡ false) → RowsPainted high op (λ x k. ltb k y && f x k) a b → RowsPainted high op f a b
  rows_all y a b n p = grind arith

-- a line that has ink somewhere, after a move to the side, is one of the ink's
pub line_inside : (left : ℤ) (ink : ℕ → ℕ → Bool) (h : ℕ) → ((u v : ℕ) → ink u v ≡ true → v < h) → (x v : ℕ) → shifted left (λ u. ink u v) x ≡ true → v < h
line_inside left ink h o x v e = grind arith

white_word : (x : ℕ) → word_dot 0 x ≡ false
unfolding bit
white_word x = grind arith

-- words that stand ready as the lines of ink
pub ready_placed : (left top : ℤ) (row high above : ℕ) (words : List ℕ) (ink : ℕ → ℕ → Bool) → top ≡ pos row → IsReady high above words ink
    → (x y : ℕ) → words_dot words left (row + above) (length words) x y ≡ placed left top ink x y
ready_placed left top row high above words ink t is x y =
    grind (arith, common_steps, lt-leb, le-leb, shifted_none, lt-ltb, shifted_same, le-ltb, get_or_past, white_word)
