-- The area of the page and the direction of its lines, by looking back over the items.
use Rattle.std.specs.Prelude.{ℕ, ◌+◌, ◌-◌, nat_lt, nat_le, Bool, true, false, ◌&&◌, if◌then◌else◌, List, [], ◌∷◌, Option, Some, None, min, max, ◌==◌, ℤ, pos, negsuc}
use Rattle.vp_esc.specs.declared.item.EscItem.{EscItem}
use Rattle.vp_esc.specs.declared.item.EscItem.TheVariants.{Area as SetArea, Direction as SetDirection, Initialize}
use Rattle.vp_esc.specs.declared.item.PrintDirection.{PrintDirection}
use Rattle.vp_esc.specs.declared.item.PrintDirection.TheVariants.{LeftToRight as EscLeftToRight, BottomToTop as EscBottomToTop, RightToLeft as EscRightToLeft, TopToBottom as EscTopToBottom}
use Rattle.vp_page.specs.declared.page.TheConstants.{PAGE_ROWS}
use Rattle.vp_page.specs.declared.area.Area.{Area}
use Rattle.vp_page.specs.declared.area.Direction.{Direction}
use Rattle.vp_page.specs.declared.area.Direction.TheVariants.{LeftToRight, BottomToTop, RightToLeft, TopToBottom}
use Rattle.vp_receipt_settings.specs.declared.page_mode.PrinterMode.{PrinterMode}
use Rattle.vp_receipt_settings.specs.declared.page_mode.PrinterMode.TheVariants.{Standard, Page}
use Rattle.vp_receipt_settings.specs.declared.width.Width.{Width}
use Rattle.vp_receipt_settings.specs.Setup.{Setup, across}

abbrev pub is_paged : PrinterMode → Bool
is_paged Standard = false
is_paged Page = true

-- the whole page
abbrev pub whole_page : Width → Area
whole_page paper = record { x = 0; y = 0; dx = across paper; dy = PAGE_ROWS }

-- ESC W: an area begins on the page, and has a dot
abbrev pub is_area : Width → ℕ → ℕ → ℕ → ℕ → Bool
is_area paper x y wide high = nat_lt x (across paper) && nat_lt y PAGE_ROWS && nat_lt 0 wide && nat_lt 0 high

-- it ends at the page's edges
abbrev pub area_cut : Width → ℕ → ℕ → ℕ → ℕ → Area
area_cut paper x y wide high =
    record { x = x; y = y; dx = min wide (across paper - x); dy = min high (PAGE_ROWS - y) }

-- ESC W: the area, in either mode
abbrev pub area : Setup → List EscItem → Area
area setup [] = whole_page setup.width
area setup (SetArea x y wide high ∷ before) =
    if is_area setup.width x y wide high then area_cut setup.width x y wide high else area setup before
area setup (Initialize ∷ before) = whole_page setup.width
area setup (_ ∷ before) = area setup before

-- ESC T: the direction of lines, in either mode
abbrev pub direction_of : PrintDirection → Direction
direction_of EscLeftToRight = LeftToRight
direction_of EscBottomToTop = BottomToTop
direction_of EscRightToLeft = RightToLeft
direction_of EscTopToBottom = TopToBottom

abbrev pub direction_or : Option PrintDirection → Direction → Direction
direction_or (Some d) old = direction_of d
direction_or None old = old

abbrev pub direction : List EscItem → Direction
direction [] = LeftToRight
direction (SetDirection s ∷ before) = direction_or s.value (direction before)
direction (Initialize ∷ before) = LeftToRight
direction (_ ∷ before) = direction before

-- GS \: a vertical position is 0 to 65,535
abbrev pub is_vertical_move : ℤ → ℕ → Bool
is_vertical_move (pos n) vertical = nat_le (vertical + n) 65535
is_vertical_move (negsuc n) vertical = nat_lt n vertical

abbrev pub vertical_moved : ℤ → ℕ → ℕ
vertical_moved (pos n) vertical = if nat_le (vertical + n) 65535 then vertical + n else vertical
vertical_moved (negsuc n) vertical = if nat_lt n vertical then vertical - (n + 1) else vertical

-- rows further down, at most at 65,535
abbrev pub vertical_after : ℕ → ℕ → ℕ
vertical_after vertical rows = min (vertical + rows) 65535

-- the lower edge of an area
abbrev pub lower_edge : Area → ℕ
lower_edge a = a.y + a.dy

-- the greatest lower edge, with that of an area which is used or not
abbrev pub raised : Bool → Area → ℕ → ℕ
raised uses a old = if uses then max old (lower_edge a) else old

-- how far down a page is printed: to the greatest lower edge, else to that of the area in force
abbrev pub extent_of : ℕ → Area → ℕ
extent_of used a = if used == 0 then lower_edge a else used
