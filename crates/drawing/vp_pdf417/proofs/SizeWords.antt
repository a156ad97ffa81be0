-- Sizes that fit, and why there is none.
use Rattle.std.proofs.Common.{◌≡◌, ℕ, ◌+◌, ◌*◌, ◌≤◌, true, sym, subst, arith}
use Rattle.std.proofs.lemmas.Bool.{and_parts, leb-true}
use Rattle.vp_pdf417.specs.declared.size.Asked.{Asked}
use Rattle.vp_pdf417.specs.Sizes.{check_count, rows_of, fits, data_count, IsSound}

fits_parts : (asked : Asked) (all columns : ℕ) → fits asked all columns ≡ true
    → (3 ≤ rows_of asked all columns) × (rows_of asked all columns ≤ 90) × (all ≤ columns * rows_of asked all columns) × (columns * rows_of asked all columns ≤ 928)
unfolding fits
fits_parts asked all columns h =
    let p1 = and_parts _ _ (and_parts _ _ h).1 in
    let p2 = and_parts _ _ p1.1 in
    let p3 = and_parts _ _ p2.1 in
    let p4 = and_parts _ _ p3.1 in
    (leb-true _ _ p1.0, leb-true _ _ p2.0, leb-true _ _ p3.0, leb-true _ _ p4.0)

-- a size whose columns fit
pub fits_sound : (asked : Asked) (count columns rows level check all : ℕ) → rows ≡ rows_of asked all columns → level ≤ 8 → check ≡ check_count level → all ≡ count + check → 1 ≤ count
    → (1 ≤ columns) × (columns ≤ 30) × (fits asked all columns ≡ true)
    → IsSound record { columns = columns; rows = rows; level = level; compact = asked.compact } × (count ≤ data_count record { columns = columns; rows = rows; level = level; compact = asked.compact })
fits_sound asked count columns rows level check all e most f g some h =
    let parts = fits_parts asked all columns h.2 in
    let least : 3 ≤ rows = subst (λ (r : ℕ). 3 ≤ r) (sym e) parts.0 in
    let most_rows : rows ≤ 90 = subst (λ (r : ℕ). r ≤ 90) (sym e) parts.1 in
    let room : all ≤ columns * rows = subst (λ (r : ℕ). all ≤ columns * r) (sym e) parts.2 in
    let whole : columns * rows ≤ 928 = subst (λ (r : ℕ). columns * r ≤ 928) (sym e) parts.3 in (
      record {
        columns_some = h.0;
        columns = h.1;
        rows_some = least;
        rows = most_rows;
        all = whole;
        level = most;
        data_some = omega (arith, f, g);
      },
      omega (arith, f, g),
    )
