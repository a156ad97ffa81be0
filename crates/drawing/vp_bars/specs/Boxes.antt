-- A symbol with its text above or below.
use Rattle.std.specs.Prelude.{◌≡◌, ℕ, ◌+◌, ◌-◌, ◌*◌, ◌/◌, ◌%◌, ◌<◌, Bool, true, false, nat_lt, nat_le, ◌&&◌, max, min, List, [], length, slice_index, if◌then◌else◌}
use Rattle.std.proofs.lemmas.Bool.{and_parts, ltb-true}
use Rattle.vp_glyph.specs.Sheets.{Sheets}
use Rattle.vp_glyph.specs.declared.cell.Font.{Font}
use Rattle.vp_glyph.specs.declared.cell.Style.{Style}
use Rattle.vp_glyph.specs.Cells.{font_width, font_height, cell_dot}
use Rattle.vp_bar_code.specs.declared.HriPosition.{HriPosition}
use Rattle.vp_bar_code.specs.declared.HriPosition.TheVariants.{None, Above, Below, Both}
use Rattle.vp_bars.specs.Symbols.{Linear}
use Rattle.vp_bars.specs.Symbologies.{text_of}
use Rattle.vp_bars.specs.Widths.{bars_width, is_black}

-- what stands in a box: a symbol, how wide its narrow and wide elements and how high its bars are, and
-- where its text stands
pub record Boxed : Type 0 where
  pub bars : Linear
  pub narrow : ℕ
  pub wide : ℕ
  pub height : ℕ
  pub sheets : Sheets
  pub font : Font
  pub place : HriPosition

-- the texts above and below the bars
abbrev pub texts_above : HriPosition → ℕ
texts_above None = 0
texts_above Above = 1
texts_above Below = 0
texts_above Both = 1

abbrev pub texts_below : HriPosition → ℕ
texts_below None = 0
texts_below Above = 0
texts_below Below = 1
texts_below Both = 1

-- text is drawn in unmagnified cells
abbrev pub plain_style : Style
plain_style = record { wm = 1; hm = 1; spacing = 0; bold = false; underline = 0; inverse = false }

abbrev pub line_width : Font → List ℕ → ℕ
line_width font text = font_width font * length text

-- dot (x, y) of cells side by side
unfoldable pub line_dot : Sheets → Font → List ℕ → ℕ → ℕ → Bool
line_dot sheets font text x y = nat_lt x (line_width font text)
    && cell_dot sheets font plain_style (slice_index text (x / font_width font)) (x % font_width font) y

-- no text asked for is no text
abbrev pub text_at : HriPosition → List ℕ → List ℕ
text_at None text = []
text_at Above text = text
text_at Below text = text
text_at Both text = text

abbrev pub text_width : Font → HriPosition → List ℕ → ℕ
text_width font place text = line_width font (text_at place text)

-- the box is as wide as the wider of bars and text, and as high as the bars and the texts
abbrev pub box_width : Boxed → ℕ
box_width b = max (bars_width b.bars b.narrow b.wide) (text_width b.font b.place (text_of b.bars))

abbrev pub box_top : Boxed → ℕ
box_top b = texts_above b.place * font_height b.font

abbrev pub box_height : Boxed → ℕ
box_height b = box_top b + b.height + texts_below b.place * font_height b.font

-- what is `own` wide stands in the middle of the box
abbrev pub centred : ℕ → ℕ → (ℕ → Bool) → ℕ → Bool
centred width own f x = let left = (width - own) / 2 in nat_le left x && f (x - left)

abbrev pub text_row : Boxed → ℕ → ℕ → Bool
text_row b y x = centred (box_width b) (line_width b.font (text_of b.bars))
    (λ u. line_dot b.sheets b.font (text_of b.bars) u y) x

abbrev pub bars_row : Boxed → ℕ → Bool
bars_row b x = centred (box_width b) (bars_width b.bars b.narrow b.wide) (is_black b.bars b.narrow b.wide) x

-- dot (x, y) of the box
unfoldable pub box_dot : Boxed → ℕ → ℕ → Bool
box_dot b x y =
    nat_lt x (box_width b) && nat_lt y (box_height b) && (
    if nat_lt y (box_top b) then text_row b y x
    else if nat_lt y (box_top b + b.height) then bars_row b x
    else text_row b (y - box_top b - b.height) x)

-- the most cells of a text that a row of so many dots shows
abbrev pub line_pieces : Font → List ℕ → ℕ → ℕ
line_pieces font text dots = min (length text) (dots / font_width font + 2)

-- the most characters of bars, or cells of a text, that a row of so many dots shows of any box
abbrev pub box_pieces : ℕ → ℕ
box_pieces dots = min 512 (dots + 2)

-- there is no ink outside
pub box_inside : (b : Boxed) (x y : ℕ) → box_dot b x y ≡ true → (x < box_width b) × (y < box_height b)
unfolding box_dot
box_inside b x y e =
    let p = and_parts _ _ e in
    let q = and_parts _ _ p.0 in
    (ltb-true x (box_width b) q.0, ltb-true y (box_height b) q.1)
