-- The rows of a strip.
use Rattle.std.proofs.Common.{◌≡◌, ℕ, ◌+◌, ◌-◌, ◌*◌, ◌/◌, ◌%◌, ◌<◌, ◌≤◌, Bool, nat_le, ◌&&◌, refl, ap, arith, List, length as list_length, replicate, pos, zero, suc, ℤ, take}
use Rattle.std.proofs.lemmas.List.{length-replicate, get_or-take}
use Rattle.std.proofs.lemmas.Bool.{le-leb}
use Rattle.vp_page.specs.declared.page.TheConstants.{PAPER_DOTS, PAPER_BYTES}
use Rattle.vp_dots.specs.Dots.{bit, dot, shifted, span}
use Rattle.vp_dots.specs.Painting.{Painted}
use Rattle.vp_dots.specs.Images.{row_of, row_from}
use Rattle.vp_dots.specs.declared.Op.TheVariants.{Black, White}
use Rattle.vp_dots.proofs.ImageRows.{length-row_from}
use Rattle.vp_strips.specs.Rows.{paper_row, clipped}
use Rattle.vp_receipt_settings.specs.declared.width.Width.{Width}
use Rattle.vp_receipt_settings.specs.Setup.{across, row_bytes}
use Rattle.vp_receipt_settings.proofs.Widths.{dots_across, few_dots}
use Rattle.vp_strips.proofs.Bitmaps.{dot_white}

-- a row that was white has the dots of a source, moved to the right
pub moved_dot : (n left : ℕ) (at : ℤ) (f : ℕ → Bool) (row a : List ℕ) → row ≡ replicate n 0 → at ≡ pos left → Painted Black (shifted at f) row a
    → (d : ℕ) → d < 8 * n → dot a d ≡ (nat_le left d && f (d - left))
moved_dot n left at f row a e at_is p d h = grind (arith, list_length, length-replicate, pos, dot_white, nat_le)

-- and is clipped where it is whitened from an end on
pub row_clipped : (left length end : ℕ) (f : ℕ → Bool) (a b : List ℕ) → end ≡ left + length → list_length a ≡ PAPER_BYTES → ((d : ℕ) → d < PAPER_DOTS → dot a d ≡ (nat_le left d && f (d - left)))
    → Painted White (span end PAPER_DOTS) a b → (d : ℕ) → d < PAPER_DOTS → dot b d ≡ clipped left length f d
row_clipped left length end f a b end_is long moved p d h = grind arith

-- rows with the same dots have the same bytes
row_from_same : (n : ℕ) (f g : ℕ → Bool) (at most : ℕ) → at + 8 * n ≤ most → ((d : ℕ) → d < most → f d ≡ g d) → row_from n f at ≡ row_from n g at
row_from_same zero f g at most l h = refl
row_from_same (suc n) f g at most l h = grind (arith, row_from_same n f g (at + 8) most (omega arith) h)

pub row_of_same : (n : ℕ) (f g : ℕ → Bool) → ((d : ℕ) → d < 8 * n → f d ≡ g d) → row_of n f ≡ row_of n g
row_of_same n f g h = row_from_same n f g 0 (8 * n) (omega arith) h

pub length-paper_row : (paper : Width) (f : ℕ → Bool) → list_length (paper_row paper f) ≡ row_bytes paper
unfolding paper_row
length-paper_row paper f = length-row_from (row_bytes paper) f 0

pub paper_row_near : (paper : Width) (f g : ℕ → Bool) → ((d : ℕ) → d < across paper → f d ≡ g d) → paper_row paper f ≡ paper_row paper g
unfolding paper_row
paper_row_near paper f g h = row_of_same (row_bytes paper) f g (λ d l. h d (omega (arith, dots_across paper)))

pub paper_row_same : (paper : Width) (f g : ℕ → Bool) → ((d : ℕ) → d < PAPER_DOTS → f d ≡ g d) → paper_row paper f ≡ paper_row paper g
paper_row_same paper f g h = paper_row_near paper f g (λ d l. h d (omega (arith, few_dots paper)))

-- a dot of a row's first bytes
pub dot-take : (n : ℕ) (row : List ℕ) (d : ℕ) → d < 8 * n → dot (take n row) d ≡ dot row d
unfolding dot
dot-take n row d h = ap (λ b. bit b (7 - d % 8)) (get_or-take n row (d / 8) 0 (omega arith))

-- where it isn't moved, a row as long as the paper has the dots of its source
pub straight_dot : (left : ℕ) (source row : List ℕ) (d : ℕ) → left ≡ 0 → row ≡ take PAPER_BYTES source → d < PAPER_DOTS → dot row d ≡ (nat_le left d && dot source (d - left))
straight_dot left source row d none e h =
    let here : d - 0 ≡ d = omega arith in
    rw (e, none, here, le-leb 0 d (omega arith)) (dot-take PAPER_BYTES source d (omega arith))

-- narrower paper has the front of the row
pub take_row : (paper : Width) (f : ℕ → Bool) (row : List ℕ) → row ≡ row_of PAPER_BYTES f → take (row_bytes paper) row ≡ paper_row paper f
unfolding paper_row
take_row paper f row e = grind arith
