-- Many rows of an image, as they are put out.
use Rattle.std.proofs.Common.{◌≡◌, ℕ, suc, ◌+◌, ◌-◌, ◌*◌, ◌<◌, ◌≤◌, ap, ◌∙◌, arith, List, ◌++◌, length, take, drop, length-append}
use Rattle.std.proofs.lemmas.Grind.{common_steps}
use Rattle.std.specs.List.{range_with_len, flat_map}
use Rattle.std.proofs.Math.Nat.{suc-mul, mul-le-mul_right}
use Rattle.std.proofs.lemmas.List.{take_at, take-append-le}
use borrow.Rule.Slice.PartMut.{put_mid}
use Rattle.vp_dots.specs.Images.{Image, row_bytes, image_row}
use Rattle.vp_dots.proofs.ImageLaws.{length-pieces}
use Rattle.vp_output.specs.declared.place.Line.TheVariants.{Row}
use Rattle.vp_output.specs.declared.place.Place.{Place as InImage}
use Rattle.vp_output.specs.Lines.{rows_from}
use Rattle.vp_output.proofs.Cut.{put_more}
use Rattle.vp_output.proofs.Parts.{rows_begin}
use Rattle.vp_copies.specs.Copies.{at, copies_text, lines_of, pending}
use Rattle.vp_copies.proofs.Places.{pending_is}
use Rattle.vp_copies.proofs.Texts.{drop-pieces, length-line}

pub one_more : (b k : ℕ) → (k + 1) * b ≡ k * b + b
one_more b k = ap (λ m. m * b) (let e : k + 1 ≡ suc k = omega arith in e) ∙ suc-mul k b

-- a row fits behind k others
pub row_fits : (b k n : ℕ) (old : List ℕ) → k < n → n * b ≤ length old → k * b + b ≤ length old
row_fits b k n old h fits = omega (arith, one_more b k, mul-le-mul_right b (let l : k + 1 ≤ n = omega arith in l))

module _ (row : ℕ → List ℕ) (b : ℕ) (even : (y : ℕ) → length (row y) ≡ b) where
  abbrev rows : ℕ → ℕ → List ℕ
  rows y n = flat_map row (range_with_len y n)

  -- row k of some rows
  row_in : (y k n : ℕ) → k < n → take b (drop (k * b) (rows y n)) ≡ row (y + k)
  row_in y k n h =
      ap (take b) (drop-pieces row b even y n k (omega arith) ∙ ap (rows (y + k)) (let e : n - k ≡ suc (n - k - 1) = omega arith in e))
      ∙ take_at (row (y + k)) (rows (y + k + 1) (n - k - 1)) b (even (y + k))

  -- one more row is copied behind k others
  pub row_copied : (y k n : ℕ) (old room part : List ℕ) → k < n → (k + 1) * b ≤ length old
      → room ≡ take (k * b) (rows y n) ++ drop (k * b) old
      → part ≡ row (y + k) ++ drop (length (row (y + k))) (take (length room - k * b) (drop (k * b) room))
      → put_mid (k * b) (length room - k * b) room part ≡ take ((k + 1) * b) (rows y n) ++ drop ((k + 1) * b) old
  row_copied y k n old room part h fits before new = grind (arith, common_steps, one_more, put_more, length-pieces, row_in)

pub even_rows : (i : Image) (y : ℕ) → length (image_row i y) ≡ row_bytes i.width
even_rows i y = length-line i (Row y)

module _ (i : Image) (some : 0 < i.height) where
  abbrev start : ℕ → InImage
  start y = record { line = Row y; byte = 0 }

  -- from a row on come the rows, and then the other copies
  from_row : (copies y : ℕ) → 0 < copies → 0 < i.width → y < i.height → pending i (at copies (start y)) ≡ rows_from (lines_of i) y ++ copies_text i (copies - 1)
  from_row copies y c wide h =
      pending_is i some copies (start y) c (record { line = h; byte = omega arith })
      ∙ ap (λ t. t ++ copies_text i (copies - 1)) (rows_begin (lines_of i) (start y) y h)

  long : (y n : ℕ) → y + n ≤ i.height → n * row_bytes i.width ≤ length (rows_from (lines_of i) y)
  long y n h =
      omega (arith, length-pieces (image_row i) (row_bytes i.width) (even_rows i) y (i.height - y), mul-le-mul_right (row_bytes i.width) (let l : n ≤ i.height - y = omega arith in l))

  -- so many rows are no more than what is left
  pub rows_within : (copies y n : ℕ) → 0 < copies → 0 < i.width → y < i.height → y + n ≤ i.height → n * row_bytes i.width ≤ length (pending i (at copies (start y)))
  rows_within copies y n c wide h l = grind (arith, long, from_row, length-append)

  -- and are its front
  pub rows_front : (copies y n : ℕ) → 0 < copies → 0 < i.width → y < i.height → y + n ≤ i.height
      → take (n * row_bytes i.width) (rows_from (lines_of i) y) ≡ take (n * row_bytes i.width) (pending i (at copies (start y)))
  rows_front copies y n c wide h l = grind (arith, from_row, take-append-le, long)
