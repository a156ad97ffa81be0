-- Rows without padding, one piece after the other.
use Rattle.std.proofs.Common.{inl, inr, ◌≡◌, ◌<◌, ◌≤◌, ◌+◌, ◌-◌, ◌*◌, ◌/◌, ◌%◌, ◌^◌, ℕ, Bool, not, ◌&&◌, List, ◌++◌, length, get_or, take, sym, ap, ◌∙◌, arith, length-append}
use Rattle.std.proofs.lemmas.List.{get_or_append_left, get_or-append_right, get_or_past}
use Rattle.std.proofs.Math.Seq.{take-append_seam}
use Rattle.std.proofs.lemmas.Bool.{cases_lt}
use Rattle.vp_dots.specs.Dots.{bit, dot}
use Rattle.vp_dots.specs.Images.{row_of}
use Rattle.vp_dots.specs.Painting.{paint, Painted}
use Rattle.vp_dots.specs.declared.Op.TheVariants.{White}
use Rattle.vp_dots.proofs.ImageRows.{length-row_from, dot-row_of, fits-row_of, row_is}
use Rattle.vp_join.specs.Strips.{is_padding, without_padding}

pub dot-append_left : (a b : List ℕ) (d : ℕ) → d < 8 * length a → dot (a ++ b) d ≡ dot a d
unfolding dot
dot-append_left a b d h = ap (λ n. bit n (7 - d % 8)) (get_or_append_left a b 0 (d / 8) (omega arith))

pub dot-append_right : (a b : List ℕ) (d : ℕ) → 8 * length a ≤ d → dot (a ++ b) d ≡ dot b (d - 8 * length a)
unfolding dot
dot-append_right a b d h = grind (arith, get_or-append_right)

pub fits_append : (a b : List ℕ) → ((i : ℕ) → get_or a i 0 < 2 ^ 8) → ((i : ℕ) → get_or b i 0 < 2 ^ 8) → (i : ℕ) → get_or (a ++ b) i 0 < 2 ^ 8
fits_append a b f g i = grind (arith, get_or_append_left, get_or-append_right)

white : (p q : Bool) → paint White p q ≡ (not p && q)
white p q = grind arith

pub length-without_padding : (w : ℕ) (r : List ℕ) → length (without_padding w r) ≡ length r
length-without_padding w r = length-row_from (length r) (λ d. not (is_padding w d) && dot r d) 0

pub dot-without_padding : (w : ℕ) (r : List ℕ) (d : ℕ) → d < 8 * length r → dot (without_padding w r) d ≡ (not (is_padding w d) && dot r d)
dot-without_padding w r d h = dot-row_of (length r) (λ d. not (is_padding w d) && dot r d) d h

-- a piece more, of which the padding is cleared
pub without_padding-append : (w : ℕ) (r x y : List ℕ) → ((i : ℕ) → get_or y i 0 < 2 ^ 8) → Painted White (λ d. is_padding w (8 * length r + d)) x y
    → without_padding w (r ++ x) ≡ without_padding w r ++ y
without_padding-append w r x y fits p =
    let a = without_padding w r in
    let la = length-without_padding w r in
    let f = λ (d : ℕ). not (is_padding w d) && dot (r ++ x) d in
    sym (row_is (a ++ y) (length (r ++ x)) f (length-append a y ∙ omega (arith, la, p.length_is, length-append r x)) (fits_append a y (fits-row_of (length r) (λ d. not (is_padding w d) && dot r d)) fits)
    (λ d l. elim (cases_lt d (8 * length r)) [
      | inl h ↦ dot-append_left a y d (omega (arith, la, h)) ∙ dot-without_padding w r d h ∙ ap (λ b. not (is_padding w d) && b) (sym (dot-append_left r x d h))
      | inr g ↦
          let e : 8 * length r + (d - 8 * length r) ≡ d = omega arith in
          dot-append_right a y d (omega (arith, la, g)) ∙ ap (λ n. dot y (d - 8 * n)) la ∙ p.dots_are (d - 8 * length r) (omega (arith, l, length-append r x))
          ∙ white (is_padding w (8 * length r + (d - 8 * length r))) (dot x (d - 8 * length r)) ∙ ap (λ z. not (is_padding w z) && dot x (d - 8 * length r)) e
          ∙ ap (λ b. not (is_padding w d) && b) (sym (dot-append_right r x d g))
    ]))

fits_front : (y z : List ℕ) → ((i : ℕ) → get_or (y ++ z) i 0 < 2 ^ 8) → (i : ℕ) → get_or y i 0 < 2 ^ 8
fits_front y z f i = grind (arith, get_or_append_left, get_or_past)

-- the same where the piece is the front of a longer room
pub without_padding-room : (w given m : ℕ) (r x y z : List ℕ) → given ≡ length r → length x ≡ m → ((i : ℕ) → get_or (y ++ z) i 0 < 2 ^ 8)
    → Painted White (λ d. is_padding w (8 * given + d)) x y → without_padding w (r ++ x) ≡ without_padding w r ++ take m (y ++ z)
without_padding-room w given m r x y z e l fits p = grind (arith, without_padding-append w r x y, fits_front y z fits, take-append_seam y z)

-- the rows so far are a front of those with a piece more
pub without_padding-front : (w : ℕ) (r x : List ℕ) → (y : List ℕ) × (without_padding w (r ++ x) ≡ without_padding w r ++ y)
without_padding-front w r x =
    let f = λ (d : ℕ). paint White (is_padding w (8 * length r + d)) (dot x d) in
    let y = row_of (length x) f in
    (y, without_padding-append w r x y (fits-row_of (length x) f) (record { length_is = length-row_from (length x) f 0; dots_are = λ d l. dot-row_of (length x) f d l }))
