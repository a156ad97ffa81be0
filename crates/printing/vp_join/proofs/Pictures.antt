-- The rows of strips without padding are the bytes of their image.
use Rattle.std.proofs.Common.{inl, inr, ◌≡◌, ◌<◌, ◌+◌, ◌*◌, ◌/◌, ◌%◌, ◌^◌, ℕ, zero, suc, Bool, not, cond, eqb, ltb, leb, ◌&&◌, List, [], ◌++◌, length, get_or, sym, ap, ◌∙◌, arith}
use Rattle.std.specs.List.{range_with_len, flat_map}
use Rattle.std.proofs.lemmas.Nat.{mod_below, div-add-mod'}
use Rattle.std.proofs.lemmas.Bool.{cases_lt, ne_eqb, lt-ltb, le-ltb, lt-leb, le-leb}
use Rattle.std.proofs.Math.Nat.{mul-le-mul_right}
use Rattle.vp_dots.specs.Dots.{dot}
use Rattle.vp_dots.specs.Headers.{header_of}
use Rattle.vp_dots.specs.Images.{Image, row_bytes, image_row, image_rows, pbm}
use Rattle.vp_dots.proofs.ImageRows.{fits-row_of, row_is}
use Rattle.vp_dots.proofs.ImageLaws.{length-image_rows, image_bit}
use Rattle.vp_join.specs.Strips.{is_padding, without_padding}
use Rattle.vp_join.proofs.Trims.{fits_append}

fits_pieces : (piece : ℕ → List ℕ) → ((k i : ℕ) → get_or (piece k) i 0 < 2 ^ 8) → (a h i : ℕ) → get_or (flat_map piece (range_with_len a h)) i 0 < 2 ^ 8
fits_pieces piece f a zero zero = omega arith
fits_pieces piece f a zero (suc i) = omega arith
fits_pieces piece f a (suc h) i = fits_append (piece a) (flat_map piece (range_with_len (a + 1) h)) (f a) (fits_pieces piece f (a + 1) h) i

in_width : (x w : ℕ) (p q : Bool) → (x < w → p ≡ q) → (ltb x w && p) ≡ (not (leb w x) && q)
in_width x w p q h = grind (arith, lt-ltb, lt-leb, le-ltb, le-leb)

module _ (i : Image) (raw : List ℕ) (long : length raw ≡ i.height * row_bytes i.width)
    (dots : (x y : ℕ) → x < i.width → y < i.height → i.is_black x y ≡ dot raw (8 * (y * row_bytes i.width) + x)) where
  -- dot x of row y
  pub dot_in_row : (d x y : ℕ) → d ≡ 8 * (y * row_bytes i.width) + x → x < 8 * row_bytes i.width → y < i.height → dot (image_rows i) d ≡ (ltb x i.width && i.is_black x y)
  unfolding dot
  dot_in_row d x y e l m = grind (arith, image_bit i x y l m)

  row_below : (d : ℕ) → d < 8 * (i.height * row_bytes i.width) → 0 < 8 * row_bytes i.width → d / (8 * row_bytes i.width) < i.height
  row_below d l p = grind (arith, div-add-mod', mul-le-mul_right)

  dots_are : (d : ℕ) → d < 8 * length raw → dot (image_rows i) d ≡ (not (is_padding i.width d) && dot raw d)
  dots_are d l =
      let n = 8 * row_bytes i.width in
      let x = d % n in
      let y = d / n in
      let below : d < 8 * (i.height * row_bytes i.width) = omega (arith, l, long) in
      let p : 0 < n = some_bytes d below in
      let e : d ≡ 8 * (y * row_bytes i.width) + x = omega (arith, div-add-mod' d n) in
      let m : y < i.height = row_below d below p in
      dot_in_row d x y e (mod_below d n p) m ∙ in_width x i.width (i.is_black x y) (dot raw d) (λ k. dots x y k m ∙ ap (dot raw) (sym e))
    where
      some_bytes : (d : ℕ) → d < 8 * (i.height * row_bytes i.width) → 0 < 8 * row_bytes i.width
      some_bytes d h = elim (cases_lt 0 (row_bytes i.width)) [
        | inl s ↦ omega (arith, s)
        | inr z ↦ absurd (let q : row_bytes i.width ≡ 0 = omega (arith, z) in omega (arith, ap (λ k. i.height * k) q, h))
      ]

  pub rows_are : image_rows i ≡ without_padding i.width raw
  rows_are = grind (arith, row_is (image_rows i) (length raw), length-image_rows i, fits_pieces (image_row i), fits-row_of (row_bytes i.width), dots_are)

-- the text of the image
pub pbm_is : (i : Image) (raw : List ℕ) → length raw ≡ i.height * row_bytes i.width
    → ((x y : ℕ) → x < i.width → y < i.height → i.is_black x y ≡ dot raw (8 * (y * row_bytes i.width) + x))
    → pbm i ≡ cond (eqb i.height 0) [] (header_of i.width i.height) ++ without_padding i.width raw
pbm_is i raw long dots = grind (arith, ne_eqb, rows_are)
