-- What is laid on a page, and the dots that this makes.
use Rattle.std.specs.Prelude.{ℕ, ◌-◌, nat_eq, nat_lt, nat_le, Bool, false, not, ◌&&◌, ◌||◌, List, [], ◌∷◌, length}
use Rattle.vp_dots.specs.Dots.{dot}
use Rattle.vp_page.specs.declared.area.Area.{Area}
use Rattle.vp_page.specs.declared.area.Direction.{Direction}
use Rattle.vp_page.specs.Areas.{holds, along, down}
use Rattle.vp_page.specs.Lines.{line_dot, row_in}

-- an image that is laid with its left at the start of the lines, and its top at a vertical position of the
-- area
pub record Mark : Type 0 where
  pub area : Area
  pub direction : Direction
  pub top : ℕ
  -- how many rows it has
  pub high : ℕ
  pub dot : ℕ → ℕ → Bool

-- since ESC L: images laid, areas made white by CAN, and where the rows of both were counted anew
pub data Layer : Type 0 where
  Laid : (mark : Mark) → Layer
  Wiped : (area : Area) → Layer
  CountedAnew : Layer

-- whether a black dot of the mark falls on the place (x, y) of the page
abbrev pub mark_dot : Mark → ℕ → ℕ → Bool
mark_dot m x y =
    holds m.area x y && (nat_le m.top (down m.area m.direction x y)
    && m.dot (along m.area m.direction x y) (down m.area m.direction x y - m.top))

-- the dot at (x, y) of the page, by its layers, the newest first
abbrev pub page_dot : List Layer → ℕ → ℕ → Bool
page_dot [] x y = false
page_dot (Laid m ∷ before) x y = mark_dot m x y || page_dot before x y
page_dot (Wiped a ∷ before) x y = not (holds a x y) && page_dot before x y
page_dot (CountedAnew ∷ before) x y = page_dot before x y

-- one row of dots, laid at a depth of the area
abbrev pub row_mark : Area → Direction → ℕ → (ℕ → Bool) → Mark
row_mark a d v row = record { area = a; direction = d; top = v; high = 1; dot = λ u w. nat_eq w 0 && row u }

-- a row of dots, laid `times` times, one below the other from a depth of the area on
abbrev pub times_mark : Area → Direction → ℕ → ℕ → (ℕ → Bool) → Mark
times_mark a d v times row = record {
  area = a;
  direction = d;
  top = v;
  high = times;
  dot = λ u w. nat_lt w times && row u;
}

-- rows no longer than the longest line, one below the other from a depth of the area on
abbrev pub lines_mark : Area → Direction → ℕ → List (List ℕ) → Mark
lines_mark a d v lines = record {
  area = a;
  direction = d;
  top = v;
  high = length lines;
  dot = λ u w. line_dot lines w u;
}

-- rows of `wide` bytes, one behind the other in bytes and laid one below the other from a depth of the area
-- on
abbrev pub rows_mark : Area → Direction → ℕ → ℕ → ℕ → List ℕ → Mark
rows_mark a d v wide rows bytes = record {
  area = a;
  direction = d;
  top = v;
  high = rows;
  dot = λ u w. nat_lt w rows && dot (row_in bytes wide w) u;
}

-- the first n rows of what a mark lays
abbrev pub first_rows : ℕ → Mark → Mark
first_rows n m = record {
  area = m.area;
  direction = m.direction;
  top = m.top;
  high = n;
  dot = λ u w. nat_lt w n && m.dot u w;
}
