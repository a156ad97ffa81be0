-- A line as the lowest rows of a bitmap.
use Rattle.std.proofs.Common.{◌≡◌, ℕ, ◌-◌, ◌/◌, ◌%◌, ◌<◌, Bool, true, false, refl, eqb, ap, ◌∙◌, arith, List, [], length, get_or, replicate, if◌then◌else◌}
use Rattle.std.proofs.lemmas.Bool.Decides.{nat_tests}
use Rattle.std.proofs.lemmas.List.{get_or-replicate, length-replicate}
use Rattle.std.proofs.lemmas.Nat.Bits.{bit_at-zero}
use Rattle.vp_dots.specs.Dots.{dot, bit, span}
use Rattle.vp_page.specs.declared.line.TheConstants.{LINE_BYTES, LINE_DOTS}
use Rattle.vp_receipt_settings.specs.declared.text.TheConstants.{LINE_ROWS}
use Rattle.vp_strips.specs.LineDots.{HasDots, IsClear}

-- a white row
pub dot_white : (n x : ℕ) → x / 8 < n → dot (replicate n 0) x ≡ false
unfolding dot bit
dot_white n x h = rw (get_or-replicate {A = ℕ} n (x / 8) 0 0 h) (ap (λ k. eqb k 1) (bit_at-zero (7 - x % 8)))

white_rows : (high wide : ℕ) (bitmap : List (List ℕ)) → bitmap ≡ replicate high (replicate wide 0) → (y : ℕ) → y < high → get_or bitmap y [] ≡ replicate wide 0
white_rows high wide bitmap e y h = ap (λ (rows : List (List ℕ)). get_or rows y []) e ∙ get_or-replicate high y (replicate wide 0) [] h

pub blank : (high wide : ℕ) (bitmap : List (List ℕ)) → high ≡ LINE_ROWS → wide ≡ LINE_BYTES → bitmap ≡ replicate high (replicate wide 0) → HasDots [] bitmap
blank high wide bitmap a b e = grind (arith, white_rows, length-replicate, dot_white)

-- a row of a bitmap whose lowest rows are made white
cleared_row : (old new : List ℕ) (low : Bool) → new ≡ (if low then replicate LINE_BYTES 0 else old) → length old ≡ LINE_BYTES
    → (low ≡ false → (x : ℕ) → x < LINE_DOTS → dot old x ≡ false)
    → (length new ≡ LINE_BYTES) × ((x : ℕ) → x < LINE_DOTS → dot new x ≡ false)
cleared_row old new true e long white =
    (ap length e ∙ length-replicate {A = ℕ} LINE_BYTES 0, λ x h. ap (λ r. dot r x) e ∙ dot_white LINE_BYTES x (omega arith))
cleared_row old new false e long white = (ap length e ∙ long, λ x h. ap (λ r. dot r x) e ∙ white refl x h)

above : (from y : ℕ) → y < LINE_ROWS → span from LINE_ROWS y ≡ false → y < from
above from y h e = grind (arith, nat_tests)

pub cleared : (used from : ℕ) (same : List Bool) (old new : List (List ℕ)) → from ≡ LINE_ROWS - used → IsClear used same old
    → ((y : ℕ) → get_or new y [] ≡ (if span from LINE_ROWS y then replicate LINE_BYTES 0 else get_or old y []))
    → HasDots [] new
cleared used from same old new e is rows =
    let row = λ (y : ℕ) (h : y < LINE_ROWS). cleared_row (get_or old y []) (get_or new y []) (span from LINE_ROWS y) (rows y) (is.rows_are y h)
    (λ out x k. is.above x y k (let l : y < from = above from y h out in omega arith)) in
    record {
      rows_are = λ y h. (row y h).0;
      dots_are = λ x y k h. (row y h).1 x k;
    }
