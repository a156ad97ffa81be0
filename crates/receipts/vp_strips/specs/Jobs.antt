-- What is left to put out from a place in a strip.
use Rattle.std.specs.Prelude.{ℕ, ◌+◌, ◌-◌, nat_lt, Bool, ◌&&◌, false, List, [], Option, Some, None, slice_index_or}
use Rattle.vp_page.specs.declared.page.TheConstants.{PAPER_DOTS, PAGE_ROWS}
use Rattle.vp_receipt_settings.specs.declared.text.TheConstants.{LINE_ROWS}
use Rattle.vp_dots.specs.Dots.{dot}
use Rattle.vp_dots.specs.Headers.{header_of}
use Rattle.vp_strips.specs.Canvases.{Canvas}
use Rattle.vp_strips.specs.declared.strip.Strip.{Strip}
use Rattle.vp_strips.specs.declared.strip.Dots.{Dots}
use Rattle.vp_strips.specs.declared.strip.Dots.TheVariants.{Line, White, Across, Raster, Drawn, Page}
use Rattle.vp_output.specs.declared.place.Place.{Place}
use Rattle.vp_output.specs.Lines.{Lined, IsLineOf}
use Rattle.vp_output.specs.Places.{pending_if}
use Rattle.vp_strips.specs.SymbolInks.{symbol_dot}
use Rattle.vp_receipt_settings.specs.Setup.{across}
use Rattle.vp_strips.specs.Rows.{paper_row, clipped, cut_dot}

-- dot (x, y) of a bitmap
abbrev pub bitmap_dot : List (List ℕ) → ℕ → ℕ → Bool
bitmap_dot bitmap x y = dot (slice_index_or bitmap y []) x

-- dot (x, y) of the lowest rows of a bitmap, moved to the right and clipped
abbrev pub line_dot_of : ℕ → ℕ → ℕ → List (List ℕ) → ℕ → ℕ → Bool
line_dot_of height left length bitmap x y =
    nat_lt y height && clipped left length (dot (slice_index_or bitmap (LINE_ROWS - height + y) [])) x

-- dot (x, y) of a page
abbrev pub page_dot_of : List (List ℕ) → ℕ → ℕ → Bool
page_dot_of page x y = nat_lt y PAGE_ROWS && clipped 0 PAPER_DOTS (dot (slice_index_or page y [])) x

-- dot (x, y) of a strip
abbrev pub dot_in : Dots → Canvas → ℕ → ℕ → Bool
dot_in (Line height left length) canvas x y = line_dot_of height left length canvas.bitmap x y
dot_in White canvas x y = false
dot_in (Across cut) canvas x y = cut_dot cut x
dot_in Raster canvas x y = dot canvas.raster_row x
dot_in Page canvas x y = page_dot_of canvas.page.rows x y
dot_in (Drawn left length) canvas x y =
    clipped left length (λ u. symbol_dot canvas.sheets canvas.symbol u y) x

abbrev pub strip_dot : Strip → Canvas → ℕ → ℕ → Bool
strip_dot s canvas x y = dot_in s.dots canvas x y

-- the bytes of a row of the strip
abbrev pub row_text : Strip → Canvas → ℕ → List ℕ
row_text s canvas y = paper_row s.paper (λ x. strip_dot s canvas x y)

-- the header of the image that it begins
abbrev pub head_text : Strip → List ℕ
head_text s = header_of (across s.paper) s.tall

-- the strip by lines: the header, and its rows
abbrev pub lines_of : Strip → Canvas → Lined
lines_of s canvas = record { head = head_text s; rows = s.rows; row = row_text s canvas }

-- what is still to be put out of the strip, from the place on
abbrev pub text : Strip → Canvas → Option Place → List ℕ
text s canvas place = pending_if (lines_of s canvas) place

-- the place, where there is one, is in the header, or in one of `rows` rows
abbrev pub IsPlace : ℕ → Option Place → Type 0
IsPlace rows None = Unit {0}
IsPlace rows (Some p) = IsLineOf rows p.line
