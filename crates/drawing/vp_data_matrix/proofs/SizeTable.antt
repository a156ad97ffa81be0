-- The table of sizes, checked row by row, and the smallest size.
use Rattle.std.proofs.Common.{◌≡◌, ℕ, zero, suc, ◌+◌, ◌-◌, ◌*◌, ◌/◌, ◌<◌, ◌≤◌, ◌&&◌, Bool, true, cond, eqb, ltb, leb, List, refl, sym, subst, ap, ◌∙◌, arith, Some, None}
use Rattle.std.proofs.lemmas.Bool.{and_parts, eqb-true, ltb-true, leb-true}
use Rattle.vp_data_matrix.specs.declared.size.Size.{Size}
use Rattle.vp_data_matrix.specs.declared.size.Shape.{Shape}
use Rattle.vp_data_matrix.specs.Sizes.{table, size_in, size_at, matrix_rows, matrix_columns, total, IsSound, first_from, fits, has_shape}

-- a test that passes at each number below n
abbrev passes_below : ℕ → (ℕ → Bool) → Bool
passes_below zero p = true
passes_below (suc n) p = p n && passes_below n p

passes_at : (n : ℕ) (p : ℕ → Bool) → passes_below n p ≡ true → (k : ℕ) → k < n → p k ≡ true
passes_at zero p h k lt = absurd (omega arith)
passes_at (suc n) p h k lt = grind (arith, passes_at n p (and_parts (p n) (passes_below n p) h).1 k)

abbrev holds : Size → Bool
holds s = leb s.rows 144 && (leb s.columns 144 && (eqb s.rows (s.rows / (s.region_rows + 2) * (s.region_rows + 2)) && (eqb s.columns (s.columns / (s.region_columns + 2) * (s.region_columns + 2)) && (leb s.region_rows 24 && (leb s.region_columns 24 && (leb 6 (matrix_rows s) && (leb (matrix_rows s) 132 && (leb 8 (matrix_columns s) && (leb (matrix_columns s) 132 && (leb s.words 1558 && (ltb 0 s.check && (leb s.check 68 && (ltb 0 s.blocks && (leb s.blocks 10 && (leb s.words (175 * s.blocks) && (leb (total s) 2178))))))))))))))))

every_size : passes_below 30 (λ k. holds (size_at k)) ≡ true
unfolding size_at
every_size = refl

of_tests : (s : Size) → holds s ≡ true → IsSound s
of_tests s h =
    let p0 = and_parts _ _ h in
    let p1 = and_parts _ _ p0.1 in
    let p2 = and_parts _ _ p1.1 in
    let p3 = and_parts _ _ p2.1 in
    let p4 = and_parts _ _ p3.1 in
    let p5 = and_parts _ _ p4.1 in
    let p6 = and_parts _ _ p5.1 in
    let p7 = and_parts _ _ p6.1 in
    let p8 = and_parts _ _ p7.1 in
    let p9 = and_parts _ _ p8.1 in
    let p10 = and_parts _ _ p9.1 in
    let p11 = and_parts _ _ p10.1 in
    let p12 = and_parts _ _ p11.1 in
    let p13 = and_parts _ _ p12.1 in
    let p14 = and_parts _ _ p13.1 in
    let p15 = and_parts _ _ p14.1 in
    record {
      rows = leb-true _ _ p0.0;
      columns = leb-true _ _ p1.0;
      rows_whole = eqb-true _ _ p2.0;
      columns_whole = eqb-true _ _ p3.0;
      region_rows = leb-true _ _ p4.0;
      region_columns = leb-true _ _ p5.0;
      matrix_rows_some = leb-true _ _ p6.0;
      matrix_rows = leb-true _ _ p7.0;
      matrix_columns_some = leb-true _ _ p8.0;
      matrix_columns = leb-true _ _ p9.0;
      words = leb-true _ _ p10.0;
      check_some = ltb-true _ _ p11.0;
      check = leb-true _ _ p12.0;
      blocks_some = ltb-true _ _ p13.0;
      blocks = leb-true _ _ p14.0;
      block_words = leb-true _ _ p15.0;
      all = leb-true _ _ p15.1;
    }

pub sound : (k : ℕ) → k < 30 → IsSound (size_at k)
sound k lt = of_tests (size_at k) (passes_at 30 (λ k. holds (size_at k)) every_size k lt)

pub sound_in : (sizes : List (ℕ × ℕ × ℕ × ℕ × ℕ × ℕ × ℕ)) (k : ℕ) (s : Size) → sizes ≡ table → s ≡ size_in sizes k → k < 30 → IsSound s
unfolding size_at
sound_in sizes k s e f lt = subst IsSound (sym (f ∙ ap (λ l. size_in l k) e)) (sound k lt)

pub size_found : (sizes : List (ℕ × ℕ × ℕ × ℕ × ℕ × ℕ × ℕ)) (k : ℕ) (s : Size) → sizes ≡ table → s ≡ size_in sizes k → s ≡ size_at k
unfolding size_at
size_found sizes k s e f = f ∙ ap (λ l. size_in l k) e

-- one number less is left
pub first_more : (p : ℕ → Bool) (k : ℕ) → k < 30 → first_from p k (30 - k) ≡ cond (p k) (Some k) (first_from p (k + 1) (30 - (k + 1)))
first_more p k lt =
    let e : 30 - k ≡ suc (30 - (k + 1)) = omega arith in
    rw e refl

pub first_none : (p : ℕ → Bool) (k : ℕ) → 30 ≤ k → first_from p k (30 - k) ≡ None
first_none p k le =
    let e : 30 - k ≡ 0 = omega arith in
    rw e refl

pub fits_room : (shape : Shape) (needed k : ℕ) → fits shape needed k ≡ true → needed ≤ (size_at k).words
unfolding fits
fits_room shape needed k h = leb-true needed (size_at k).words (and_parts (has_shape shape (size_at k)) (leb needed (size_at k).words) h).1
