-- Bands painted on the columns of the label.
use Rattle.std.proofs.Common.{inl, inr, ◌≡◌, ℕ, ◌+◌, ◌<◌, ◌≤◌, Bool, false, ltb, ◌&&◌, refl, sym, ap, ◌∙◌, arith, List, [], get_or}
use Rattle.std.proofs.lemmas.Bool.{cases_lt, lt-ltb, le-ltb, lt-leb, le-leb}
use Rattle.vp_dots.specs.Dots.{dot, span}
use Rattle.vp_dots.specs.Painting.{paint}
use Rattle.vp_dots.specs.Places.{RowsPainted}
use Rattle.vp_dots.specs.declared.Op.{Op}
use Rattle.vp_label_size.specs.declared.TheConstants.{BAND_ROWS}
use Rattle.vp_field.specs.Bands.{ShownPainted}
use Rattle.vp_field.proofs.Columns.{before_end, from_end}

-- dots from one to another of a line that is white beside them
pub in_span : (from to x : ℕ) (b c : Bool) → (x < to → b ≡ c) → (span from to x ≡ false → c ≡ false) → (span from to x && b) ≡ c
in_span from to x b c same none = grind (arith, cases_lt, lt-leb, le-leb, lt-ltb, le-ltb)

module _ (columns : ℕ) (op : Op) where
  -- what is painted is painted there
  pub shown_rows : (f : ℕ → ℕ → Bool) (a b : List (List ℕ)) → RowsPainted BAND_ROWS op f a b → ShownPainted columns op f a b
  shown_rows f a b p = record { lengths_are = λ k h. (p.rows_are k h).length_is; dots_are = λ x k l h m. (p.rows_are k h).dots_are x m }

  -- the same ink there
  pub shown_same : (f g : ℕ → ℕ → Bool) (a b : List (List ℕ)) → ((x k : ℕ) → x < columns → k < BAND_ROWS → f x k ≡ g x k) → ShownPainted columns op f a b → ShownPainted columns op g a b
  shown_same f g a b e p = record { lengths_are = p.lengths_are; dots_are = λ x k l h m. p.dots_are x k l h m ∙ ap (λ i. paint op i (dot (get_or a k []) x)) (e x k l h) }

  -- none
  pub shown_none : (f : ℕ → ℕ → Bool) (a : List (List ℕ)) → ((x k : ℕ) → x < columns → k < BAND_ROWS → f x k ≡ false) → ShownPainted columns op f a a
  shown_none f a e = record { lengths_are = λ k h. refl; dots_are = λ x k l h m. rw (e x k l h) refl }

  -- rows above one with no ink below it
  pub shown_above : (f : ℕ → ℕ → Bool) (y : ℕ) (a b : List (List ℕ)) → ((x k : ℕ) → y ≤ k → k < BAND_ROWS → f x k ≡ false) → ShownPainted columns op (λ x k. ltb k y && f x k) a b → ShownPainted columns op f a b
  shown_above f y a b none p = grind (arith, shown_same, cases_lt, before_end, from_end)

  -- rows that show the same line there, behind those that are painted
  pub shown_lines : (f : ℕ → ℕ → Bool) (g : ℕ → Bool) (y n : ℕ) (a b c : List (List ℕ)) → ((x k : ℕ) → y ≤ k → k < y + n → f x k ≡ g x)
      → ShownPainted columns op (λ x k. ltb k y && f x k) a b → ShownPainted columns op (λ x k. span y (y + n) k && g x) b c
      → ShownPainted columns op (λ x k. ltb k (y + n) && f x k) a c
  shown_lines f g y n a b c e p q = grind (arith, cases_lt)

  -- all columns that have ink
  pub shown_all : (f : ℕ → ℕ → Bool) (x to : ℕ) (a b : List (List ℕ)) → ((d : ℕ) → d < columns → x ≤ d → to ≤ d) → ((d k : ℕ) → to ≤ d → f d k ≡ false)
      → ShownPainted columns op (λ d k. ltb d x && f d k) a b → ShownPainted columns op f a b
  shown_all f x to a b far none p = shown_same _ _ a b
      (λ d k l h. elim (cases_lt d x) [
        | inl y ↦ before_end d x (f d k) y
        | inr y ↦ from_end d x (f d k) y ∙ sym (none d k (far d l y))
      ]) p
