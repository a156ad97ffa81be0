-- What a page has taken since its rows were last counted anew, at the latest by ESC L: the rows of dots that
-- were laid on it, and the rows and columns that were made white.
use Rattle.std.specs.Prelude.{◌≡◌, ◌≤◌, ℕ, zero, suc, ◌+◌, ◌-◌, ◌^◌, nat_lt, min, Bool, ◌&&◌, if◌then◌else◌, List, [], ◌∷◌}
use Rattle.vp_page.specs.declared.area.Area.{Area}
use Rattle.vp_page.specs.declared.page.TheConstants.{PAGE_ROWS, PAPER_DOTS}
use Rattle.vp_page.specs.Areas.{holds, depth}
use Rattle.vp_page.specs.Layers.{Layer, Laid, Wiped, CountedAnew, Mark, page_dot}

-- how many rows of a mark are laid: those past the depth are dropped
abbrev pub rows_laid : Mark → ℕ
rows_laid m = min m.high (depth m.area m.direction - m.top)

-- the rows of all marks
abbrev pub laid_rows : List Layer → ℕ
laid_rows [] = 0
laid_rows (Laid m ∷ before) = rows_laid m + laid_rows before
laid_rows (Wiped a ∷ before) = laid_rows before
laid_rows (CountedAnew ∷ before) = 0

-- how many rows of the page an area has, and how many columns
abbrev pub area_rows : Area → ℕ
area_rows a = min (a.y + a.dy) PAGE_ROWS - a.y

abbrev pub area_columns : Area → ℕ
area_columns a = min (a.x + a.dx) PAPER_DOTS - a.x

-- what ESC L and CAN make white: at most the rows and the columns of the page, and of each area
abbrev pub most_wiped : List Layer → ℕ
most_wiped [] = PAGE_ROWS + PAPER_DOTS
most_wiped (Laid m ∷ before) = most_wiped before
most_wiped (Wiped a ∷ before) = area_rows a + area_columns a + most_wiped before
most_wiped (CountedAnew ∷ before) = 0

-- whether place i of the area's diagonal is black, from its upper left place on
abbrev pub is_black_at : List Layer → Area → ℕ → Bool
is_black_at layers a i =
    holds a (a.x + i) (a.y + i) && (nat_lt (a.x + i) PAPER_DOTS && (nat_lt (a.y + i) PAGE_ROWS
    && page_dot layers (a.x + i) (a.y + i)))

-- how many of the first n places are
unfoldable pub black_diagonal : List Layer → Area → ℕ → ℕ
black_diagonal layers a zero = 0
black_diagonal layers a (suc i) =
    (if is_black_at layers a i then 1 else 0) + black_diagonal layers a i

-- and at least a row or a column for each of those that CAN finds black, no two of which share one
abbrev pub least_wiped : List Layer → ℕ
least_wiped [] = 0
least_wiped (Laid m ∷ before) = least_wiped before
least_wiped (Wiped a ∷ before) = black_diagonal before a PAPER_DOTS + least_wiped before
least_wiped (CountedAnew ∷ before) = 0

-- the largest count
abbrev pub MOST : ℕ
MOST = 2 ^ 64 - 1

-- the rows that were counted are those laid and those made white
pub record IsCounted (layers : List Layer) (laid wiped : ℕ) : Type 0 where
  pub laid_is : laid ≡ min (laid_rows layers) MOST
  pub at_most : wiped ≤ most_wiped layers
  pub at_least : min (least_wiped layers) MOST ≤ wiped
