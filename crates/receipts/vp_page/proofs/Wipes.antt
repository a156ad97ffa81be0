-- Marks and wipes.
use Rattle.std.proofs.Common.{inl, inr, ◌≡◌, ℕ, true, not, ◌&&◌, ◌||◌, List, [], ◌∷◌, ◌++◌, refl, sym, ap, ◌∙◌}
use Rattle.std.proofs.lemmas.Bool.{cases_Bool, true≢false}
use Rattle.std.proofs.Math.Bool.{or-true}
use Rattle.vp_page.specs.Areas.{holds}
use Rattle.vp_page.specs.Layers.{Layer, Laid, Wiped, CountedAnew, Mark, mark_dot, page_dot}
use Rattle.vp_page.proofs.Falling.{dots_fall}
use Rattle.vp_page.specs.Laws.{IsUnwiped, IsBlack, MarksAndWipes}

-- one more layer that makes nothing white there
above : (l : Layer) (rest : List Layer) (x y : ℕ) → ((later : List Layer) → IsUnwiped later x y → IsUnwiped (l ∷ later) x y) → IsBlack rest x y → IsBlack (l ∷ rest) x y
above l rest x y on h = record { later = l ∷ h.later; mark = h.mark; before = h.before; split = ap (λ r. l ∷ r) h.split; along = h.along; down = h.down; falls = h.falls; black = h.black; unwiped = on h.later h.unwiped }

black_if : (layers : List Layer) (x y : ℕ) → page_dot layers x y ≡ true → IsBlack layers x y
black_if [] x y e = cc
black_if (Laid m ∷ rest) x y e = elim (cases_Bool (mark_dot m x y)) [
  | inl t ↦ (let d = (dots_fall m x y).0 t in record { later = []; mark = m; before = rest; split = refl; along = d.0; down = d.1; falls = d.2; black = d.3; unwiped = tt })
  | inr f ↦ above (Laid m) rest x y (λ _ u. u) (black_if rest x y (sym (ap (λ b. b || page_dot rest x y) f) ∙ e))
]
black_if (Wiped a ∷ rest) x y e = elim (cases_Bool (holds a x y)) [
  | inl t ↦ absurd (true≢false (sym e ∙ ap (λ b. not b && page_dot rest x y) t))
  | inr f ↦ above (Wiped a) rest x y (λ _ u. (f, u)) (black_if rest x y (sym (ap (λ b. not b && page_dot rest x y) f) ∙ e))
]
black_if (CountedAnew ∷ rest) x y e = above CountedAnew rest x y (λ _ u. u) (black_if rest x y e)

black_at : (later : List Layer) (m : Mark) (before : List Layer) (x y : ℕ) → mark_dot m x y ≡ true → IsUnwiped later x y → page_dot (later ++ Laid m ∷ before) x y ≡ true
black_at [] m before x y t u = ap (λ b. b || page_dot before x y) t
black_at (Laid n ∷ later) m before x y t u = ap (λ b. mark_dot n x y || b) (black_at later m before x y t u) ∙ or-true (mark_dot n x y)
black_at (Wiped a ∷ later) m before x y t u = ap (λ b. not b && page_dot (later ++ Laid m ∷ before) x y) u.0 ∙ black_at later m before x y t u.1
black_at (CountedAnew ∷ later) m before x y t u = black_at later m before x y t u

pub marks_and_wipes : MarksAndWipes
marks_and_wipes layers x y = (black_if layers x y, λ h. ap (λ l. page_dot l x y) h.split ∙ black_at h.later h.mark h.before x y ((dots_fall h.mark x y).1 (h.along, h.down, h.falls, h.black)) h.unwiped)
