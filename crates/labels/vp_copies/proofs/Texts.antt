-- The text of an image, cut at the start of a line.
use Rattle.std.proofs.Common.{◌≡◌, ℕ, zero, suc, ◌+◌, ◌-◌, ◌*◌, ◌/◌, ◌%◌, ◌<◌, ◌≤◌, false, refl, ap, sym, ◌∙◌, arith, cond, eqb, List, [], ◌++◌, length, take, drop, length-append}
use Rattle.std.specs.List.{range_with_len, flat_map}
use Rattle.std.proofs.Math.Nat.{suc-mul}
use Rattle.std.proofs.lemmas.List.{drop_at, drop-drop, get_or-take}
use Rattle.vp_dots.specs.Dots.{bit, dot}
use Rattle.vp_dots.specs.Headers.{header_of}
use Rattle.vp_dots.specs.Images.{Image, row_bytes, image_row, image_rows, pbm}
use Rattle.vp_dots.proofs.ImageRows.{length-row_from}
use Rattle.vp_output.specs.declared.place.Line.{Line}
use Rattle.vp_output.specs.declared.place.Line.TheVariants.{Head, Row}
use Rattle.vp_output.specs.Lines.{line_text, row_after, rows_from, IsLineOf}
use Rattle.vp_copies.specs.Copies.{bytes_above, copies_text, line_bytes, lines_of}

-- pieces of one length from one of them on
module _ (piece : ℕ → List ℕ) (n : ℕ) (even : (k : ℕ) → length (piece k) ≡ n) where
  pub drop-pieces : (a h k : ℕ) → k ≤ h → drop (k * n) (flat_map piece (range_with_len a h)) ≡ flat_map piece (range_with_len (a + k) (h - k))
  drop-pieces a h zero l = grind arith
  drop-pieces a zero (suc k) l = absurd (omega arith)
  drop-pieces a (suc h) (suc k) l =
      let rest = flat_map piece (range_with_len (a + 1) h) in
      let far : suc k * n ≡ n + k * n = omega (arith, suc-mul k n) in
      let on : a + 1 + k ≡ a + suc k = omega arith in
      let left : h - k ≡ suc h - suc k = omega arith in
      ap (λ d. drop d (piece a ++ rest)) far ∙ sym (drop-drop (k * n) n (piece a ++ rest))
      ∙ ap (drop (k * n)) (drop_at (piece a) rest n (even a)) ∙ drop-pieces (a + 1) h k (omega arith)
      ∙ ap (λ b. flat_map piece (range_with_len b (h - k))) on ∙ ap (λ m. flat_map piece (range_with_len (a + suc k) m)) left

module _ (i : Image) where
  pub length-line : (l : Line) → length (line_text (lines_of i) l) ≡ line_bytes i.width i.height l
  length-line l = grind (arith, length-row_from)

  -- the rows behind a line
  abbrev pub rows_behind : Line → List ℕ
  rows_behind l = rows_from (lines_of i) (row_after l)

  pbm_is : 0 < i.height → pbm i ≡ header_of i.width i.height ++ image_rows i
  pbm_is h = ap (λ b. cond b [] (header_of i.width i.height ++ image_rows i)) (let n : eqb i.height 0 ≡ false = grind arith in n)

  -- the text from a line on
  pub text_from : (l : Line) → 0 < i.height → IsLineOf i.height l → drop (bytes_above i.width i.height l) (pbm i) ≡ line_text (lines_of i) l ++ rows_behind l
  text_from Head h b = grind arith
  text_from (Row y) h b =
      let head = header_of i.width i.height in
      let w = row_bytes i.width in
      let left : i.height - y ≡ suc (i.height - (y + 1)) = omega arith in
      let at : 0 + y ≡ y = omega arith in
      ap (drop (length head + y * w)) (pbm_is h) ∙ sym (drop-drop (y * w) (length head) (head ++ image_rows i))
      ∙ ap (drop (y * w)) (drop_at head (image_rows i) (length head) refl)
      ∙ drop-pieces (image_row i) w (λ k. length-line (Row k)) 0 i.height y (omega arith)
      ∙ ap (λ k. flat_map (image_row i) (range_with_len k (i.height - y))) at
      ∙ ap (λ n. flat_map (image_row i) (range_with_len y n)) left

-- the text of copies is as long as that of one, so often
pub length-copies : (i : Image) (copies : ℕ) → length (copies_text i copies) ≡ copies * length (pbm i)
length-copies i zero = omega arith
length-copies i (suc q) = omega (arith, length-append (pbm i) (copies_text i q), length-copies i q, suc-mul q (length (pbm i)))

-- a dot of a row's first bytes
pub dot-take : (n : ℕ) (row : List ℕ) (d : ℕ) → d < 8 * n → dot (take n row) d ≡ dot row d
unfolding dot
dot-take n row d h = ap (λ b. bit b (7 - d % 8)) (get_or-take n row (d / 8) 0 (omega arith))
