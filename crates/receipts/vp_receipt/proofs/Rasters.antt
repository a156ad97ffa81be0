-- The rows of a raster, each as often as its scale says.
use Rattle.std.proofs.Common.{◌≡◌, ℕ, zero, suc, ◌+◌, ◌*◌, ◌/◌, ◌<◌, Bool, List, [], ◌∷◌, ◌++◌, length, flat_map, append_assoc, refl, sym, ap, ◌∙◌, arith, length-append}
use Rattle.std.specs.Prelude.{slice_index_or}
use Rattle.std.proofs.Math.Nat.{mul-suc, suc-mul}
use Rattle.std.proofs.Math.Seq.{get_or-append_seam}
use Rattle.std.proofs.lemmas.Nat.{div-mul-add}
use Rattle.vp_receipt_settings.specs.declared.width.Width.{Width}
use Rattle.vp_strips.specs.Rows.{rows_text, paper_row}
use Rattle.vp_strips.proofs.Rows.{paper_row_same}

module _ (paper : Width) where
  -- rows, and those below them
  rows_split : (f : ℕ → ℕ → Bool) (y a n : ℕ) → rows_text paper f y (a + n) ≡ rows_text paper f y a ++ rows_text paper f (y + a) n
  rows_split f y zero n = grind arith
  rows_split f y (suc a) n =
      let count : suc a + n ≡ suc (a + n) = omega arith in
      let top : y + 1 + a ≡ y + suc a = omega arith in
      rw (count, rows_split f (y + 1) a n, top, append_assoc)

  -- rows that are all alike
  rows_alike : (f : ℕ → ℕ → Bool) (g : ℕ → Bool) (y z n : ℕ) → ((x j : ℕ) → j < n → f x (y + j) ≡ g x) → rows_text paper f y n ≡ rows_text paper (λ x y. g x) z n
  rows_alike f g y z zero h = refl
  rows_alike f g y z (suc n) h =
      let first : y ≡ y + 0 = omega arith in
      ap (λ t. t ++ rows_text paper f (y + 1) n) (paper_row_same paper (λ x. f x y) g (λ x l. ap (f x) first ∙ h x 0 (omega arith)))
      ∙ ap (λ t. paper_row paper g ++ t)
      (rows_alike f g (y + 1) (z + 1) n (λ x j l. let next : y + 1 + j ≡ y + (j + 1) = omega arith in ap (f x) next ∙ h x (j + 1) (omega arith)))

  module _ (draw : List ℕ → ℕ → Bool) (d : ℕ) where
    abbrev dots : List (List ℕ) → ℕ → ℕ → Bool
    dots rows x y = draw (slice_index_or rows (y / d) []) x

    abbrev row_text : List ℕ → List ℕ
    row_text row = rows_text paper (λ x y. draw row x) 0 d

    rows_below : (above rows : List (List ℕ)) → rows_text paper (dots (above ++ rows)) (length above * d) (d * length rows) ≡ flat_map row_text rows
    rows_below above [] = let none : d * 0 ≡ 0 = omega arith in ap (rows_text paper (dots (above ++ [])) (length above * d)) none
    rows_below above (row ∷ rows) =
        let all = above ++ row ∷ rows in
        let top = length above * d in
        let count : d * suc (length rows) ≡ d + d * length rows = let m = mul-suc d (length rows) in omega (arith, m) in
        let same : (above ++ row ∷ []) ++ rows ≡ all = append_assoc above (row ∷ []) rows in
        let next : length (above ++ row ∷ []) * d ≡ top + d =
        let l : length (above ++ row ∷ []) ≡ suc (length above) = omega (arith, length-append above (row ∷ [])) in
        ap (λ n. n * d) l ∙ suc-mul (length above) d in
        ap (rows_text paper (dots all) top) count
        ∙ rows_split (dots all) top d (d * length rows)
        ∙ ap (λ t. t ++ rows_text paper (dots all) (top + d) (d * length rows))
        (rows_alike (dots all) (draw row) top 0 d
        (λ x j h. ap (λ i. draw (slice_index_or all i []) x) (div-mul-add (length above) d j h) ∙ ap (λ r. draw r x) (get_or-append_seam above row rows [])))
        ∙ ap (λ t. row_text row ++ t)
        (sym (ap (λ rs. rows_text paper (dots rs) (length (above ++ row ∷ []) * d) (d * length rows)) same ∙ ap (λ y. rows_text paper (dots all) y (d * length rows)) next)
        ∙ rows_below (above ++ row ∷ []) rows)

    -- all rows, from the top
    pub all_rows : (rows : List (List ℕ)) → rows_text paper (dots rows) 0 (d * length rows) ≡ flat_map row_text rows
    all_rows rows = let top : 0 * d ≡ 0 = omega arith in rw top at (rows_below [] rows)
