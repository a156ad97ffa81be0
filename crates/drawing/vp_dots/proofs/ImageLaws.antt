-- The bytes of whole images.
use Rattle.std.proofs.Common.{refl, ◌≡◌, Bool, ◌++◌, ℕ, zero, suc, ◌+◌, ◌-◌, ◌*◌, ◌/◌, ◌%◌, ◌^◌, ◌<◌, ◌≤◌, false, ltb, ◌&&◌, ap, ◌∙◌, arith, List, length, get_or}
use Rattle.std.specs.List.{range_with_len, flat_map}
use Rattle.std.proofs.Math.Nat.{suc-mul}
use Rattle.std.proofs.lemmas.List.{length-append, get_or_append_left, get_or-append_right}
use Rattle.std.proofs.lemmas.Bool.{cases_lt, lt-ltb, le-ltb}
use Rattle.vp_dots.specs.Dots.{bit, dot}
use Rattle.vp_dots.specs.Images.{pbm, Image, row_bytes, image_row, image_rows}
use Rattle.vp_dots.proofs.ImageRows.{length-row_from, dot-row_of, row_is, row_of_same}

-- pieces of one length, one after the other
module _ (piece : ℕ → List ℕ) (n : ℕ) (even : (k : ℕ) → length (piece k) ≡ n) where
  pub length-pieces : (a h : ℕ) → length (flat_map piece (range_with_len a h)) ≡ h * n
  length-pieces a zero = omega arith
  length-pieces a (suc h) = length-append (piece a) (flat_map piece (range_with_len (a + 1) h)) ∙ omega (arith, even a, length-pieces (a + 1) h, suc-mul h n)

  pub get_or-pieces : (a h k b : ℕ) → k < h → b < n → get_or (flat_map piece (range_with_len a h)) (k * n + b) 0 ≡ get_or (piece (a + k)) b 0
  get_or-pieces a zero k b l m = absurd (omega arith)
  get_or-pieces a (suc h) zero b l m = ap (λ j. get_or (flat_map piece (range_with_len a (suc h))) j 0) (let e : zero * n + b ≡ b = omega arith in e) ∙ get_or_append_left (piece a) (flat_map piece (range_with_len (a + 1) h)) 0 b (omega (arith, even a)) ∙ ap (λ j. get_or (piece j) b 0) (omega arith)
  get_or-pieces a (suc h) (suc k) b l m = grind (arith, get_or-append_right, get_or-pieces (a + 1) h k b (omega arith) m)

module _ (i : Image) where
  pub length-image_rows : length (image_rows i) ≡ i.height * row_bytes i.width
  length-image_rows = length-pieces (image_row i) (row_bytes i.width) (λ k. length-row_from (row_bytes i.width) (λ x. ltb x i.width && i.is_black x k) 0) 0 i.height

  -- a bit of the bytes of the rows
  pub image_bit : (x y : ℕ) → x < 8 * row_bytes i.width → y < i.height → bit (get_or (image_rows i) (y * row_bytes i.width + x / 8) 0) (7 - x % 8) ≡ (ltb x i.width && i.is_black x y)
  unfolding dot
  image_bit x y l m = grind (arith, get_or-pieces, length-row_from, dot-row_of)

  -- bytes with the dots of a row of the image are its bytes
  pub image_row_is : (row : List ℕ) (y : ℕ) → length row ≡ row_bytes i.width → ((k : ℕ) → get_or row k 0 < 2 ^ 8) → ((x : ℕ) → x < i.width → dot row x ≡ i.is_black x y)
      → ((x : ℕ) → i.width ≤ x → dot row x ≡ false) → row ≡ image_row i y
  image_row_is row y e p h w = grind (arith, row_is, lt-ltb, le-ltb)

pieces_same : (p q : ℕ → List ℕ) (a h : ℕ) → ((k : ℕ) → k < a + h → p k ≡ q k) → flat_map p (range_with_len a h) ≡ flat_map q (range_with_len a h)
pieces_same p q a zero e = refl
pieces_same p q a (suc h) e = ap (λ xs. xs ++ flat_map p (range_with_len (a + 1) h)) (e a (omega arith)) ∙ ap (λ xs. q a ++ xs) (pieces_same p q (a + 1) h (λ k l. e k (omega arith)))

-- the text of an image hangs on the dots inside its box alone
pub pbm_same : (w h : ℕ) (f g : ℕ → ℕ → Bool) → ((x y : ℕ) → x < w → y < h → f x y ≡ g x y)
    → pbm (record { width = w; height = h; is_black = f }) ≡ pbm (record { width = w; height = h; is_black = g })
pbm_same w h f g e = grind (arith, pieces_same, row_of_same, cases_lt, le-ltb)
