-- A white page.
use Rattle.std.proofs.Common.{◌++◌, drop, ◌≡◌, ℕ, ◌*◌, ◌/◌, ◌<◌, ◌||◌, ◌∙◌, ap, false, arith, List, [], length, get_or, replicate}
use Rattle.std.proofs.lemmas.Bool.Decides.{nat_tests}
use Rattle.std.proofs.lemmas.List.{get_or-drop, get_or_append_left, get_or-append_right, get_or_past, get_or-replicate, length-replicate}
use Rattle.std.proofs.lemmas.Nat.Bits.{bit_at-zero}
use Rattle.vp_page.specs.declared.page.TheConstants.{PAGE_ROWS, PAPER_BYTES, PAPER_DOTS}
use Rattle.vp_page.specs.declared.line.TheConstants.{LINE_BYTES}
use Rattle.vp_dots.specs.Dots.{dot, bit}
use Rattle.vp_page.specs.Pages.{HasPage}

pub dot_white : (n x : ℕ) → x / 8 < n → dot (replicate n 0) x ≡ false
unfolding dot bit
dot_white n x h = grind (arith, get_or-replicate, bit_at-zero)

-- a band of white rows
pub long_rows : (high wide y : ℕ) (band : List (List ℕ)) → band ≡ replicate high (replicate wide 0) → y < high → length (get_or band y []) ≡ wide
long_rows high wide y band e h = rw (e, get_or-replicate high y (replicate {A = ℕ} wide 0) [] h) (length-replicate {A = ℕ} wide 0)

pub white_rows : (high wide x y : ℕ) (band : List (List ℕ)) → band ≡ replicate high (replicate wide 0) → y < high → x < 8 * wide → dot (get_or band y []) x ≡ false
white_rows high wide x y band e h l = rw (e, get_or-replicate high y (replicate {A = ℕ} wide 0) [] h) (dot_white wide x (omega arith))

pub blank : (rows columns : List (List ℕ)) → rows ≡ replicate PAGE_ROWS (replicate PAPER_BYTES 0) → columns ≡ replicate PAPER_DOTS (replicate LINE_BYTES 0)
    → HasPage [] (record { rows = rows; columns = columns; laid = 0; wiped = 0 })
blank rows columns r c = record {
  rows_are = λ y h. long_rows PAGE_ROWS PAPER_BYTES y rows r h;
  columns_are = λ x h. long_rows PAPER_DOTS LINE_BYTES x columns c h;
  dots_are = λ x y k h.
      ap (λ b. b || dot (get_or columns x []) y) (white_rows PAGE_ROWS PAPER_BYTES x y rows r h (omega arith))
      ∙ white_rows PAPER_DOTS LINE_BYTES y x columns c k (omega arith);
  work = record { laid_is = omega arith; at_most = omega arith; at_least = omega arith };
}

-- a row with white bytes behind it
pub white_end : (row : List ℕ) (m u : ℕ) → dot (row ++ drop (length row) (replicate {A = ℕ} m 0)) u ≡ dot row u
unfolding dot
white_end row m u = grind (arith, nat_tests, get_or_append_left, get_or-append_right, get_or-drop, get_or_past, get_or-replicate, length-replicate)
