-- Areas of the page, and where dots fall in them.
use Rattle.std.specs.Prelude.{ℕ, ◌+◌, ◌-◌, nat_lt, nat_le, Bool, true, false, ◌&&◌}
use Rattle.vp_page.specs.declared.area.Area.{Area}
use Rattle.vp_page.specs.declared.area.Direction.{Direction}
use Rattle.vp_page.specs.declared.area.Direction.TheVariants.{LeftToRight, BottomToTop, RightToLeft, TopToBottom}

-- ESC W: whether the place (x, y) of the page lies in the area
abbrev pub holds : Area → ℕ → ℕ → Bool
holds a x y = nat_le a.x x && nat_lt x (a.x + a.dx) && (nat_le a.y y && nat_lt y (a.y + a.dy))

-- ESC T: how many dots a line holds
abbrev pub line_length : Area → Direction → ℕ
line_length a LeftToRight = a.dx
line_length a BottomToTop = a.dy
line_length a RightToLeft = a.dx
line_length a TopToBottom = a.dy

-- ESC T: how many rows of dots lie below one another
abbrev pub depth : Area → Direction → ℕ
depth a LeftToRight = a.dy
depth a BottomToTop = a.dx
depth a RightToLeft = a.dy
depth a TopToBottom = a.dx

-- ESC T: the column of the page on which the dot falls that is u dots along the line and w down from the top
abbrev pub falls_x : Area → Direction → ℕ → ℕ → ℕ
falls_x a LeftToRight u w = a.x + u
falls_x a BottomToTop u w = a.x + w
falls_x a RightToLeft u w = a.x + a.dx - 1 - u
falls_x a TopToBottom u w = a.x + a.dx - 1 - w

-- ESC T: the row on which it falls
abbrev pub falls_y : Area → Direction → ℕ → ℕ → ℕ
falls_y a LeftToRight u w = a.y + w
falls_y a BottomToTop u w = a.y + a.dy - 1 - u
falls_y a RightToLeft u w = a.y + a.dy - 1 - w
falls_y a TopToBottom u w = a.y + u

-- and back: how far along the line the place (x, y) of the area lies
abbrev pub along : Area → Direction → ℕ → ℕ → ℕ
along a LeftToRight x y = x - a.x
along a BottomToTop x y = a.y + a.dy - 1 - y
along a RightToLeft x y = a.x + a.dx - 1 - x
along a TopToBottom x y = y - a.y

-- and how far down
abbrev pub down : Area → Direction → ℕ → ℕ → ℕ
down a LeftToRight x y = y - a.y
down a BottomToTop x y = x - a.x
down a RightToLeft x y = a.y + a.dy - 1 - y
down a TopToBottom x y = a.x + a.dx - 1 - x

-- whether lines run along the rows of the page, or along its columns
abbrev pub is_level : Direction → Bool
is_level LeftToRight = true
is_level BottomToTop = false
is_level RightToLeft = true
is_level TopToBottom = false

-- an area, its rows exchanged with its columns
abbrev pub turned : Area → Area
turned a = record { x = a.y; y = a.x; dx = a.dy; dy = a.dx }
