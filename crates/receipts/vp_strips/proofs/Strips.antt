-- A strip is an image across the paper.
use Rattle.std.proofs.Common.{◌≡◌, ℕ, zero, suc, ◌+◌, ◌<◌, Bool, nat_lt, refl, sym, ap, ◌∙◌, arith, ◌++◌, flat_map}
use Rattle.std.specs.List.{range_with_len}
use Rattle.std.proofs.lemmas.Bool.{ne_eqb, lt-ltb}
use Rattle.vp_page.specs.declared.page.TheConstants.{PAPER_DOTS}
use Rattle.vp_dots.specs.Headers.{header_of}
use Rattle.vp_dots.specs.Images.{image_row}
use Rattle.vp_receipt_settings.specs.declared.width.Width.{Width}
use Rattle.vp_receipt_settings.specs.Setup.{across}
use Rattle.vp_receipt_settings.proofs.Widths.{dots_across}
use Rattle.vp_strips.specs.Canvases.{Canvas}
use Rattle.vp_strips.specs.declared.strip.Strip.{Strip}
use Rattle.vp_strips.specs.Rows.{rows_text, paper_row, strip_text}
use Rattle.vp_strips.specs.Jobs.{strip_dot}
use Rattle.vp_strips.specs.Held.{whole}
use Rattle.vp_strips.proofs.Rows.{paper_row_same, row_of_same}

pub rows_same : (paper : Width) (f g : ℕ → ℕ → Bool) (y n : ℕ) → ((x y : ℕ) → x < PAPER_DOTS → f x y ≡ g x y) → rows_text paper f y n ≡ rows_text paper g y n
rows_same paper f g y zero h = refl
rows_same paper f g y (suc n) h = grind (arith, paper_row_same, rows_same paper f g (y + 1) n h)

-- a row across the paper is one of an image as wide
row_is : (paper : Width) (rows y : ℕ) (f : ℕ → ℕ → Bool) → paper_row paper (λ x. f x y) ≡ image_row (record { width = across paper; height = rows; is_black = f }) y
unfolding paper_row
row_is paper rows y f = grind (arith, dots_across, row_of_same, nat_lt, lt-ltb)

rows_are : (paper : Width) (rows : ℕ) (f : ℕ → ℕ → Bool) (y n : ℕ) → rows_text paper f y n ≡ flat_map (image_row (record { width = across paper; height = rows; is_black = f })) (range_with_len y n)
rows_are paper rows f y zero = refl
rows_are paper rows f y (suc n) = grind (arith, row_is, rows_are paper rows f (y + 1) n)

-- the header of an image and its rows
pub text_of_rows : (paper : Width) (rows : ℕ) (f : ℕ → ℕ → Bool) → (rows ≡ 0 → ⊥) → header_of (across paper) rows ++ rows_text paper f 0 rows ≡ strip_text paper rows f
text_of_rows paper rows f some = ap (λ r. header_of (across paper) rows ++ r) (rows_are paper rows f 0 rows) ∙ sym (rw (ne_eqb rows 0 some) refl)

pub whole_is : (s : Strip) (canvas : Canvas) (f : ℕ → ℕ → Bool) → s.tall ≡ s.rows → (s.rows ≡ 0 → ⊥) → ((x y : ℕ) → x < PAPER_DOTS → strip_dot s canvas x y ≡ f x y) → whole s canvas ≡ strip_text s.paper s.rows f
whole_is s canvas f tall some same = grind (arith, rows_same s.paper (strip_dot s canvas) f 0 s.rows same, text_of_rows s.paper s.rows f some)
