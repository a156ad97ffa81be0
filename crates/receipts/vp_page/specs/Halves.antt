-- The halves of a page. The rows of the upright one are those of the page, and the rows of the turned one are
-- its columns: so all lines run along the rows of a half, those that run up or down along the turned one's.
use Rattle.std.specs.Prelude.{◌≡◌, ◌<◌, ◌≤◌, ℕ, ◌+◌, ◌-◌, ◌*◌, ◌%◌, nat_le, Bool, true, false, ◌&&◌, List, [], length, slice_index_or}
use Rattle.vp_dots.specs.Dots.{dot, span}
use Rattle.vp_page.specs.declared.area.Area.{Area}
use Rattle.vp_page.specs.declared.area.Direction.{Direction}
use Rattle.vp_page.specs.declared.area.Direction.TheVariants.{LeftToRight, BottomToTop, RightToLeft, TopToBottom}
use Rattle.vp_page.specs.declared.white.Rows.{Rows}
use Rattle.vp_page.specs.Areas.{holds}

-- how far along the line the column x of a half's area lies
abbrev pub along_row : Area → Direction → ℕ → ℕ
along_row a LeftToRight x = x - a.x
along_row a BottomToTop x = a.x + a.dx - 1 - x
along_row a RightToLeft x = a.x + a.dx - 1 - x
along_row a TopToBottom x = x - a.x

-- and how far down the row y
abbrev pub down_rows : Area → Direction → ℕ → ℕ
down_rows a LeftToRight y = y - a.y
down_rows a BottomToTop y = y - a.y
down_rows a RightToLeft y = a.y + a.dy - 1 - y
down_rows a TopToBottom y = a.y + a.dy - 1 - y

-- which of so many rows, laid one below the other along lines, stands i below the uppermost of them
abbrev pub from_top : Direction → ℕ → ℕ → ℕ
from_top LeftToRight rows i = i
from_top BottomToTop rows i = i
from_top RightToLeft rows i = rows - 1 - i
from_top TopToBottom rows i = rows - 1 - i

-- where lines begin
abbrev pub begin_of : Area → Direction → ℕ
begin_of a LeftToRight = a.x
begin_of a BottomToTop = a.x + a.dx
begin_of a RightToLeft = a.x + a.dx
begin_of a TopToBottom = a.x

-- the dot at (x, y) of a half, of ink that is laid from a depth of its area on
abbrev pub half_dot : Area → Direction → ℕ → (ℕ → ℕ → Bool) → ℕ → ℕ → Bool
half_dot a d v ink x y =
    holds a x y && (nat_le v (down_rows a d y) && ink (along_row a d x) (down_rows a d y - v))

-- in a half, whose rows have `wide` bytes, an area is white but for some of its rows
pub record IsWhiteBut (wide high : ℕ) (area : Area) (rows : Rows) (half : List (List ℕ)) : Type 0 where
  pub within : rows.to ≤ high
  pub rows_are : (y : ℕ) → y < high → length (slice_index_or half y []) ≡ wide
  pub white : (x y : ℕ) → x < 8 * wide → y < high → holds area x y ≡ true →
      span rows.from rows.to y ≡ false → dot (slice_index_or half y []) x ≡ false

-- a row of so many bytes stands on whole words of a half's row along which it is laid, and is no longer than
-- a line of the area, which ends on the half
pub record IsOnWords (wide : ℕ) (area : Area) (d : Direction) (bytes : ℕ) : Type 0 where
  pub words : bytes % 8 ≡ 0
  pub begins : begin_of area d % 8 ≡ 0
  pub short : 8 * bytes ≤ area.dx
  pub ends : area.x + area.dx ≤ 8 * wide
