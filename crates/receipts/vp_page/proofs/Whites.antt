-- What is known to be white.
use Rattle.std.proofs.Common.{inl, inr, ◌≡◌, ℕ, ◌+◌, ◌*◌, ◌<◌, ◌≤◌, ◌∙◌, Bool, true, false, cond, max, min, ◌&&◌, ap, sym, arith, List, [], length, get_or, replicate}
use Rattle.std.proofs.lemmas.Bool.{cases_Bool, true≢false, false_from_ne_true}
use Rattle.std.proofs.lemmas.Bool.Decides.{nat_tests}
use Rattle.vp_dots.specs.Dots.{dot, span}
use Rattle.vp_dots.specs.Places.{RowsPainted}
use Rattle.vp_dots.specs.declared.Op.TheVariants.{Black, White}
use Rattle.vp_page.specs.declared.area.Area.{Area}
use Rattle.vp_page.specs.declared.white.Rows.{Rows}
use Rattle.vp_page.specs.Areas.{holds}
use Rattle.vp_page.specs.Halves.{IsWhiteBut}
use Rattle.vp_page.proofs.Blank.{long_rows, white_rows}

-- the area stays white but for rows among which all are that something is laid on
pub laid_on : (wide high : ℕ) (area : Area) (was is : Rows) (ink : ℕ → ℕ → Bool) (old new : List (List ℕ)) → IsWhiteBut wide high area was old → RowsPainted high Black ink old new
    → is.to ≤ high → ((y : ℕ) → span was.from was.to y ≡ true → span is.from is.to y ≡ true)
    → ((x y : ℕ) → y < high → ink x y ≡ true → span is.from is.to y ≡ true) → IsWhiteBut wide high area is new
laid_on wide high area was is ink old new w p few these others = grind (arith, false_from_ne_true, true≢false)

-- a white half
pub all_white : (wide high : ℕ) (area : Area) (rows : Rows) (half : List (List ℕ)) → rows.to ≤ high → half ≡ replicate high (replicate wide 0) → IsWhiteBut wide high area rows half
all_white wide high area rows half few e = record {
  within = few;
  rows_are = λ y h. long_rows high wide y half e h;
  white = λ x y k h t f. white_rows high wide x y half e h k;
}

module _ (wide high : ℕ) (a : Area) (rows : Rows) (old new : List (List ℕ)) (long : (y : ℕ) → y < high → length (get_or old y []) ≡ wide)
    (white : (x y : ℕ) → x < 8 * wide → y < high → holds a x y ≡ true → span rows.from rows.to y ≡ false → dot (get_or old y []) x ≡ false) where
  white_but : (s h o : Bool) → (h ≡ true → s ≡ false → o ≡ false) → cond (s && h) false o ≡ cond h false o
  white_but s h o e = grind arith

  beside : (x y : ℕ) → holds a x y ≡ true → span (max rows.from a.y) (min rows.to (a.y + a.dy)) y ≡ false → span rows.from rows.to y ≡ false
  beside x y h f = grind (arith, nat_tests)

  -- an area made white on the rows on which it may not be
  pub wiped_rows : RowsPainted high White (λ x k. span (max rows.from a.y) (min rows.to (a.y + a.dy)) k && holds a x k) old new → RowsPainted high White (holds a) old new
  wiped_rows p = record {
    rows_are = λ y h. record {
      length_is = (p.rows_are y h).length_is;
      dots_are = λ x l. (p.rows_are y h).dots_are x l ∙ white_but (span (max rows.from a.y) (min rows.to (a.y + a.dy)) y) (holds a x y) _
          (λ t f. white x y (let n = long y h in omega (arith, l, n)) h t (beside x y t f));
    };
  }

  -- what was black there stands on them
  pub black_rows : (x y : ℕ) → x < 8 * wide → y < high → holds a x y ≡ true → dot (get_or old y []) x ≡ true → span (max rows.from a.y) (min rows.to (a.y + a.dy)) y ≡ true
  black_rows x y k h t b = elim (cases_Bool (span (max rows.from a.y) (min rows.to (a.y + a.dy)) y)) [
    | inl s ↦ s
    | inr f ↦ absurd (true≢false (sym b ∙ white x y k h t (beside x y t f)))
  ]

-- an area that was made white
pub now_white : (wide high : ℕ) (a : Area) (rows : Rows) (old new : List (List ℕ)) → ((y : ℕ) → y < high → length (get_or old y []) ≡ wide) → rows.to ≤ high
    → RowsPainted high White (holds a) old new → IsWhiteBut wide high a rows new
now_white wide high a rows old new long few p = record {
  within = few;
  rows_are = λ y h. (p.rows_are y h).length_is ∙ long y h;
  white = λ x y k h t f. (p.rows_are y h).dots_are x (let n = long y h in omega (arith, k, n)) ∙ ap (λ i. cond i false (dot (get_or old y []) x)) t;
}
