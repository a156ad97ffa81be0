-- What the dots of a page come to.
use Rattle.std.specs.Prelude.{◌≡◌, ◌<◌, ℕ, ◌+◌, Bool, true, false, List, [], ◌∷◌, ◌++◌, ◌↔◌}
use Rattle.vp_page.specs.Areas.{holds, line_length, depth, falls_x, falls_y}
use Rattle.vp_page.specs.Layers.{Layer, Laid, Wiped, CountedAnew, Mark, mark_dot, page_dot, row_mark, first_rows}
use Rattle.vp_page.specs.Pages.{HasPage, Paged}
use Rattle.vp_page.specs.Work.{rows_laid}

-- dot (u, w) of the mark is inside the line length and the depth, and falls on the place (x, y)
pub record FallsOn (m : Mark) (u w x y : ℕ) : Type 0 where
  pub in_line : u < line_length m.area m.direction
  pub in_depth : m.top + w < depth m.area m.direction
  pub column : x ≡ falls_x m.area m.direction u (m.top + w)
  pub row : y ≡ falls_y m.area m.direction u (m.top + w)

-- a mark blackens the places on which its black dots fall, and no others
abbrev pub DotsFall : Type 0
DotsFall =
    (m : Mark) (x y : ℕ) →
    (mark_dot m x y ≡ true) ↔ ((u : ℕ) × (w : ℕ) × FallsOn m u w x y × (m.dot u w ≡ true))

-- no wipe among the layers holds the place
abbrev pub IsUnwiped : List Layer → ℕ → ℕ → Type 0
IsUnwiped [] x y = Unit {0}
IsUnwiped (Laid m ∷ rest) x y = IsUnwiped rest x y
IsUnwiped (Wiped a ∷ rest) x y = (holds a x y ≡ false) × IsUnwiped rest x y
IsUnwiped (CountedAnew ∷ rest) x y = IsUnwiped rest x y

-- a black dot of some mark falls on the place, and no later wipe holds it
pub record IsBlack (layers : List Layer) (x y : ℕ) : Type 0 where
  pub later : List Layer
  pub mark : Mark
  pub before : List Layer
  pub split : layers ≡ later ++ Laid mark ∷ before
  pub along : ℕ
  pub down : ℕ
  pub falls : FallsOn mark along down x y
  pub black : mark.dot along down ≡ true
  pub unwiped : IsUnwiped later x y

-- a place is black exactly where a black dot of some mark falls on it, and no later wipe holds it
abbrev pub MarksAndWipes : Type 0
MarksAndWipes = (layers : List Layer) (x y : ℕ) → (page_dot layers x y ≡ true) ↔ IsBlack layers x y

-- rows laid one below the other are one mark
pub record RowsMakeAnImage : Type 0 where
  -- before the first row
  pub none : (m : Mark) (layers : List Layer) (page : Paged) → HasPage layers page →
      HasPage (Laid (first_rows 0 m) ∷ layers) page
  -- row k, laid k below the top
  pub more : (m : Mark) (k : ℕ) (row : ℕ → Bool) (layers : List Layer) (page : Paged) →
      ((u : ℕ) → u < line_length m.area m.direction → row u ≡ m.dot u k) →
      HasPage (Laid (row_mark m.area m.direction (m.top + k) row) ∷ Laid (first_rows k m) ∷ layers) page →
      HasPage (Laid (first_rows (k + 1) m) ∷ layers) page
  -- after the last one that has ink or is not past the depth
  pub all : (m : Mark) (n : ℕ) (layers : List Layer) (page : Paged) →
      ((u w : ℕ) → m.dot u w ≡ true → m.top + w < depth m.area m.direction → w < n) →
      rows_laid (first_rows n m) ≡ rows_laid m →
      HasPage (Laid (first_rows n m) ∷ layers) page → HasPage (Laid m ∷ layers) page
