-- What is painted on the rows alone that have their own bytes.
use Rattle.std.proofs.Common.{◌≡◌, ℕ, ◌+◌, ◌<◌, Bool, true, false, not, ltb, ◌&&◌, ◌||◌, sym, arith, List, [], length, get_or, set}
use Rattle.std.proofs.lemmas.Bool.Decides.{nat_tests}
use Rattle.vp_dots.specs.Painting.{Painted}
use Rattle.vp_dots.specs.Places.{RowsPainted}
use Rattle.vp_dots.specs.declared.Op.TheVariants.{Black}
use Rattle.vp_dots.proofs.Heights.{rows_next, rows_same}
use Rattle.vp_dots.proofs.Paints.{painted_same}
use Rattle.vp_page.specs.declared.line.TheConstants.{LINE_BYTES, LINE_DOTS}
use Rattle.vp_receipt_settings.specs.declared.text.TheConstants.{LINE_ROWS}

-- ink on the rows that have their own bytes
abbrev pub OwnPainted : List Bool → (ℕ → ℕ → Bool) → List (List ℕ) → List (List ℕ) → Type 0
OwnPainted same ink a b = RowsPainted LINE_ROWS Black (λ x k. not (get_or same k false) && ink x k) a b

module _ (same : List Bool) (f g : ℕ → ℕ → Bool) (a b : List (List ℕ)) where
  -- the same ink in other words
  pub own_same : ((x k : ℕ) → k < LINE_ROWS → f x k ≡ g x k) → OwnPainted same f a b → OwnPainted same g a b
  own_same e p = grind arith

  -- one painting after another
  module _ (h : ℕ → ℕ → Bool) (c : List (List ℕ)) (e : (x k : ℕ) → h x k ≡ (f x k || g x k)) where
    pub own_over : OwnPainted same f a b → OwnPainted same g b c → OwnPainted same h a c
    own_over p q = grind arith

-- one more row below `top`
module _ (same : List Bool) (f : ℕ → ℕ → Bool) (top i : ℕ) (a b : List (List ℕ)) (done : OwnPainted same (λ x k. ltb k (top + i) && f x k) a b) where
  pub told_more : get_or same (top + i) false ≡ true → OwnPainted same (λ x k. ltb k (top + (i + 1)) && f x k) a b
  told_more told = rows_same LINE_ROWS Black _ _ a b (λ x k h. grind (arith, nat_tests)) done

  pub own_more : (ink : ℕ → Bool) (old row : List ℕ) → old ≡ get_or b (top + i) [] → length old ≡ LINE_BYTES → get_or same (top + i) false ≡ false → top + i < length b → top + i < LINE_ROWS → ((x : ℕ) → x < LINE_DOTS → f x (top + i) ≡ ink x)
      → Painted Black ink old row → OwnPainted same (λ x k. ltb k (top + (i + 1)) && f x k) a (set b (top + i) row)
  own_more ink old row was long own l h is p = rows_same LINE_ROWS Black _ _ _ _ (λ x k m. grind arith)
      (rows_next LINE_ROWS Black (λ x k. not (get_or same k false) && f x k) top i a b row l h (rows_same LINE_ROWS Black _ _ _ _ (λ x k m. grind arith) done)
      (rw was at (painted_same Black ink (λ x. not (get_or same (top + i) false) && f x (top + i)) old row (λ x m. rw own (sym (is x (omega (arith, m, long))))) p)))

-- where each row has its own
pub painted_each : (same : List Bool) (f : ℕ → ℕ → Bool) (a b : List (List ℕ)) → ((k : ℕ) → get_or same k false ≡ false) → RowsPainted LINE_ROWS Black f a b → OwnPainted same f a b
painted_each same f a b each p = grind arith
