-- How many rows and columns a wipe makes white.
use Rattle.std.proofs.Common.{inl, inr, ◌⊎◌, ◌≡◌, ℕ, zero, suc, ◌+◌, ◌-◌, ◌<◌, ◌≤◌, true, min, arith, List}
use Rattle.std.proofs.lemmas.Bool.{cases_Bool}
use Rattle.std.proofs.lemmas.Bool.Decides.{nat_tests}
use Rattle.vp_dots.specs.Dots.{span}
use Rattle.vp_page.specs.declared.area.Area.{Area}
use Rattle.vp_page.specs.declared.white.Rows.{Rows}
use Rattle.vp_page.specs.declared.page.TheConstants.{PAGE_ROWS, PAPER_DOTS}
use Rattle.vp_page.specs.Areas.{holds}
use Rattle.vp_page.specs.Layers.{Layer, page_dot}
use Rattle.vp_page.specs.Work.{is_black_at, black_diagonal}

module _ (layers : List Layer) (a : Area) (rows columns : Rows)
    (seen : (x y : ℕ) → x < PAPER_DOTS → y < PAGE_ROWS → holds a x y ≡ true → page_dot layers x y ≡ true → (span rows.from rows.to y ≡ true) ⊎ (span columns.from columns.to x ≡ true)) where
  on_diagonal : (i : ℕ) → is_black_at layers a i ≡ true → (span rows.from rows.to (a.y + i) ≡ true) ⊎ (span columns.from columns.to (a.x + i) ≡ true)
  on_diagonal i e = grind (arith, nat_tests)

  -- each black place of the diagonal stands on one of the rows, or on one of the columns
  pub few_black : (n : ℕ) → black_diagonal layers a n ≤ min rows.to (a.y + n) - rows.from + (min columns.to (a.x + n) - columns.from)
  unfolding black_diagonal
  few_black zero = omega arith
  few_black (suc i) = let before = few_black i in elim (cases_Bool (is_black_at layers a i)) [
    | inl t ↦ rw t (elim (on_diagonal i t) [
      | inl r ↦ (let here : rows.from ≤ a.y + i = grind (arith, nat_tests) in let there : a.y + i < rows.to = grind (arith, nat_tests) in omega (arith, before, here, there))
      | inr c ↦ (let here : columns.from ≤ a.x + i = grind (arith, nat_tests) in let there : a.x + i < columns.to = grind (arith, nat_tests) in omega (arith, before, here, there))
    ])
    | inr f ↦ rw f (omega (arith, before))
  ]
