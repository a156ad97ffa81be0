-- Many rows of a strip, as the paper shows them.
use Rattle.std.proofs.Common.{◌≡◌, ℕ, zero, suc, ◌+◌, ◌-◌, ◌*◌, ◌/◌, ◌<◌, ◌≤◌, Bool, ◌&&◌, nat_lt, min, Some, refl, sym, ap, ◌∙◌, arith, List, ◌++◌, length, replicate, take, drop, append_assoc, false}
use Rattle.std.specs.List.{range_with_len, flat_map}
use Rattle.std.proofs.Math.Nat.{suc-mul, mul-sub, mul_comm, mul-le-mul_right, le-div_iff_mul-le}
use borrow.Rule.Slice.PartMut.{put_mid}
use Rattle.std.proofs.lemmas.Bool.{lt-ltb, le-leb}
use Rattle.std.proofs.lemmas.List.{take_at, drop_at, drop-drop, replicate-append-replicate}
use Rattle.vp_page.specs.declared.page.TheConstants.{PAGE_ROWS, PAPER_DOTS}
use Rattle.vp_dots.specs.Dots.{dot}
use Rattle.vp_dots.specs.Images.{row_from}
use Rattle.vp_dots.proofs.ImageLaws.{length-pieces}
use Rattle.vp_receipt_settings.specs.declared.width.Width.{Width}
use Rattle.vp_receipt_settings.specs.Setup.{across, row_bytes}
use Rattle.vp_receipt_settings.specs.declared.text.TheConstants.{LINE_ROWS}
use Rattle.vp_receipt_settings.proofs.Widths.{some_bytes}
use Rattle.vp_output.specs.declared.place.Line.TheVariants.{Row}
use Rattle.vp_output.specs.declared.place.Place.{Place}
use Rattle.vp_output.specs.Places.{advanced}
use Rattle.vp_strips.specs.Canvases.{Canvas}
use Rattle.vp_strips.specs.declared.strip.Strip.{Strip}
use Rattle.vp_strips.specs.Jobs.{bitmap_dot, line_dot_of, strip_dot, lines_of, text}
use Rattle.vp_strips.specs.Rows.{clipped, paper_row, rows_text}
use Rattle.vp_output.proofs.Cut.{put_more}
use Rattle.vp_output.proofs.Parts.{rows_begin, pending_on}
use Rattle.vp_strips.proofs.Rows.{length-paper_row, paper_row_near}

-- a dot of a row that is as long as the paper
pub whole_row : (row page_row : List ℕ) (d y : ℕ) → row ≡ page_row → d < PAPER_DOTS → y < PAGE_ROWS → dot row d ≡ (nat_lt y PAGE_ROWS && clipped 0 PAPER_DOTS (dot page_row) d)
whole_row row page_row d y same h k = grind (arith, lt-ltb, le-leb)

module _ (row : ℕ → List ℕ) where
  -- the first of some rows, and the others
  pub rows_cut : (y k n : ℕ) → flat_map row (range_with_len y (k + n)) ≡ flat_map row (range_with_len y k) ++ flat_map row (range_with_len (y + k) n)
  rows_cut y zero n = grind arith
  rows_cut y (suc k) n =
      ap (λ m. flat_map row (range_with_len y m)) (let e : suc k + n ≡ suc (k + n) = omega arith in e)
      ∙ ap (λ xs. row y ++ xs) (rows_cut (y + 1) k n ∙ ap (λ a. flat_map row (range_with_len (y + 1) k) ++ flat_map row (range_with_len a n)) (let e : y + 1 + k ≡ y + suc k = omega arith in e))
      ∙ sym (append_assoc (row y) (flat_map row (range_with_len (y + 1) k)) (flat_map row (range_with_len (y + suc k) n)))

module _ (paper : Width) (f : ℕ → ℕ → Bool) where
  abbrev row : ℕ → List ℕ
  row y = paper_row paper (λ x. f x y)

  pub length-row : (y : ℕ) → length (row y) ≡ row_bytes paper
  length-row y = length-paper_row paper (λ x. f x y)

  pub length-rows : (y n : ℕ) → length (rows_text paper f y n) ≡ n * row_bytes paper
  length-rows = length-pieces row (row_bytes paper) length-row

  -- some rows are the first k, and the others
  cut_at : (y k n : ℕ) → k ≤ n → rows_text paper f y n ≡ rows_text paper f y k ++ rows_text paper f (y + k) (n - k)
  cut_at y k n h = ap (rows_text paper f y) (let e : n ≡ k + (n - k) = omega arith in e) ∙ rows_cut row y k (n - k)

  pub first_rows : (y k n : ℕ) → k ≤ n → take (k * row_bytes paper) (rows_text paper f y n) ≡ rows_text paper f y k
  first_rows y k n h = ap (take (k * row_bytes paper)) (cut_at y k n h) ∙ take_at (rows_text paper f y k) (rows_text paper f (y + k) (n - k)) (k * row_bytes paper) (length-rows y k)

  pub other_rows : (y k n : ℕ) → k ≤ n → drop (k * row_bytes paper) (rows_text paper f y n) ≡ rows_text paper f (y + k) (n - k)
  other_rows y k n h = ap (drop (k * row_bytes paper)) (cut_at y k n h) ∙ drop_at (rows_text paper f y k) (rows_text paper f (y + k) (n - k)) (k * row_bytes paper) (length-rows y k)

  -- row k of some rows
  pub row_in : (y k n : ℕ) → k < n → take (row_bytes paper) (drop (k * row_bytes paper) (rows_text paper f y n)) ≡ row (y + k)
  row_in y k n h =
      ap (take (row_bytes paper)) (other_rows y k n (omega arith) ∙ ap (rows_text paper f (y + k)) (let e : n - k ≡ suc (n - k - 1) = omega arith in e))
      ∙ take_at (row (y + k)) (rows_text paper f (y + k + 1) (n - k - 1)) (row_bytes paper) (length-row (y + k))

  -- one more row is copied behind k others
  pub row_copied : (y k n bytes : ℕ) (old room part : List ℕ) → bytes ≡ row_bytes paper → k < n → n * row_bytes paper ≤ length old
      → room ≡ take (k * row_bytes paper) (rows_text paper f y n) ++ drop (k * row_bytes paper) old
      → part ≡ row (y + k) ++ drop (length (row (y + k))) (take (length room - k * bytes) (drop (k * bytes) room))
      → put_mid (k * bytes) (length room - k * bytes) room part ≡ take ((k + 1) * row_bytes paper) (rows_text paper f y n) ++ drop ((k + 1) * row_bytes paper) old
  row_copied y k n bytes old room part e h fits before new =
      let all = mul-le-mul_right (row_bytes paper) (let l : k + 1 ≤ n = omega arith in l) in
      grind (arith, all, suc-mul, put_more (rows_text paper f y n) old room part (k * row_bytes paper) (row_bytes paper), length-rows y n, length-row (y + k), row_in y k n h)

  -- a row fits behind k others
  pub row_fits : (k n bytes : ℕ) (old : List ℕ) → bytes ≡ row_bytes paper → k < n → n * row_bytes paper ≤ length old → k * bytes + row_bytes paper ≤ length old
  row_fits k n bytes old e h fits = grind arith

  -- all are copied
  pub rows_copied : (y n : ℕ) (old : List ℕ) → take (n * row_bytes paper) (rows_text paper f y n) ++ drop (n * row_bytes paper) old ≡ rows_text paper f y n ++ drop (n * row_bytes paper) old
  rows_copied y n old = ap (λ xs. xs ++ drop (n * row_bytes paper) old) (first_rows y n n (omega arith))

-- rows with the dots of others, which begin elsewhere
rows_moved : (paper : Width) (f g : ℕ → ℕ → Bool) (y z n : ℕ) → ((x k : ℕ) → x < across paper → k < n → f x (y + k) ≡ g x (z + k)) → rows_text paper f y n ≡ rows_text paper g z n
rows_moved paper f g y z zero h = refl
rows_moved paper f g y z (suc n) h =
    let first = paper_row_near paper (λ x. f x y) (λ x. g x z) (λ x l. let e = h x 0 l (omega arith) in grind (arith, e)) in
    let others = rows_moved paper f g (y + 1) (z + 1) n (λ x k l m. let e = h x (k + 1) l (omega arith) in grind (arith, e)) in
    cc

-- rows of a line that isn't moved, nor clipped on the paper
pub line_rows : (paper : Width) (bitmap : List (List ℕ)) (height length top y rows : ℕ) → across paper ≤ length → top ≡ LINE_ROWS - height + y → (0 < rows → y + rows ≤ height)
    → rows_text paper (bitmap_dot bitmap) top rows ≡ rows_text paper (line_dot_of height 0 length bitmap) y rows
line_rows paper bitmap height length' top y rows wide e inside = grind (arith, rows_moved, lt-ltb, le-leb)

-- as many rows as there is room for
pub some_rows : (paper : Width) (room left rows : ℕ) → row_bytes paper ≤ room → 0 < left → rows ≡ min (room / row_bytes paper) left → 0 < rows
some_rows paper room left rows h l e = let one = (le-div_iff_mul-le (some_bytes paper)).1 (let m : 1 * row_bytes paper ≤ room = omega arith in m) in omega arith

-- rows without a dot
row_white : (n : ℕ) (f : ℕ → Bool) (at most : ℕ) → at + 8 * n ≤ most → ((d : ℕ) → d < most → f d ≡ false) → row_from n f at ≡ replicate n 0
row_white zero f at most l h = refl
row_white (suc n) f at most l h = grind (arith, row_white n f (at + 8) most (omega arith) h)

paper_row_white : (paper : Width) (f : ℕ → Bool) → ((d : ℕ) → f d ≡ false) → paper_row paper f ≡ replicate (row_bytes paper) 0
unfolding paper_row
paper_row_white paper f h = row_white (row_bytes paper) f 0 (8 * row_bytes paper) (omega arith) (λ d l. h d)

white_rows : (paper : Width) (f : ℕ → ℕ → Bool) (y n : ℕ) → ((x k : ℕ) → y ≤ k → k < y + n → f x k ≡ false) → rows_text paper f y n ≡ replicate (n * row_bytes paper) 0
white_rows paper f y zero h = ap (λ m. replicate {A = ℕ} m 0) (let e : 0 ≡ zero * row_bytes paper = omega arith in e)
white_rows paper f y (suc n) h = grind (arith, paper_row_white, replicate-append-replicate, suc-mul, white_rows paper f (y + 1) n (λ x k l m. h x k (omega arith) (omega arith)))

drop_further : (xs : List ℕ) (i n : ℕ) → i ≤ n → drop (n - i) (drop i xs) ≡ drop n xs
drop_further xs i n h = drop-drop (n - i) i xs ∙ ap (λ m. drop m xs) (let e : i + (n - i) ≡ n = omega arith in e)

-- rows of which the last are white
pub then_white : (paper : Width) (f : ℕ → ℕ → Bool) (y inked rows : ℕ) (old room new : List ℕ) → inked ≤ rows → rows * row_bytes paper ≤ length old
    → ((x k : ℕ) → y + inked ≤ k → k < y + rows → f x k ≡ false)
    → room ≡ rows_text paper f y inked ++ drop (inked * row_bytes paper) old
    → new ≡ take (inked * row_bytes paper) room ++ (replicate (rows * row_bytes paper - inked * row_bytes paper) 0 ++ drop (rows * row_bytes paper) room)
    → new ≡ rows_text paper f y rows ++ drop (rows * row_bytes paper) old
then_white paper f y inked rows old room new few fits white is e =
    let within = mul-le-mul_right (row_bytes paper) few in
    let white_is = white_rows paper f (y + inked) (rows - inked) (λ x k l m. white x k l (omega arith)) in
    grind (arith, length-rows paper f y inked, within, mul-sub, mul_comm, take_at, drop_at, drop_further, cut_at paper f y inked rows few, white_is, append_assoc)

module _ (s : Strip) (canvas : Canvas) where
  abbrev at : ℕ → Place
  at y = record { line = Row y; byte = 0 }

  abbrev from : ℕ → ℕ → List ℕ
  from y n = rows_text s.paper (strip_dot s canvas) y n

  -- what is left of a strip from a row on
  pub rows_left : (y : ℕ) → y < s.rows → text s canvas (Some (at y)) ≡ from y (s.rows - y)
  rows_left y h = rows_begin (lines_of s canvas) (at y) y h

  -- what is left behind some rows
  pub left_behind : (y n last : ℕ) → 0 < n → y + n ≤ s.rows → last ≡ y + (n - 1)
      → text s canvas (advanced s.rows (row_bytes s.paper) (row_bytes s.paper) (at last)) ≡ drop (n * row_bytes s.paper) (from y (s.rows - y))
  left_behind y n last some few e = grind (arith, pending_on, length-paper_row, rows_left, other_rows)
