-- Characters as they are printed, by Epson's commands of ESC E, ESC -, GS ! and GS B.
use Rattle.std.specs.Prelude.{◌≡◌, ℕ, ◌+◌, ◌-◌, ◌*◌, ◌/◌, ◌<◌, Bool, true, not, nat_lt, nat_le, ◌&&◌, ◌||◌, Option, None, Some, if◌then◌else◌}
use Rattle.std.proofs.lemmas.Bool.{and_parts, ltb-true}
use Rattle.vp_glyph.specs.Sheets.{Glyphs, sheet_dot, scaled_dot}
use Rattle.vp_glyph.specs.declared.cell.Font.{Font}
use Rattle.vp_glyph.specs.declared.cell.Font.TheVariants.{A, B}
use Rattle.vp_glyph.specs.declared.cell.Style.{Style}
use Rattle.vp_glyph.specs.Sheets.{Sheets}

-- a character of font A is 12 by 24 dots, one of font B 9 by 17
abbrev pub font_width : Font → ℕ
font_width A = 12
font_width B = 9

abbrev pub font_height : Font → ℕ
font_height A = 24
font_height B = 17

-- dot (x, y) of character c of a font: sheet B's for font B, or font A's at its size without that
abbrev pub font_dot : Sheets → ℕ → Font → ℕ → ℕ → Bool
font_dot sheets c A x y = sheet_dot sheets.a c x y
font_dot sheets c B x y = font_b_dot sheets c sheets.b x y
  where
    font_b_dot : Sheets → ℕ → Option Glyphs → ℕ → ℕ → Bool
    font_b_dot sheets c None x y = scaled_dot sheets.a c 9 17 x y
    font_b_dot sheets c (Some b) x y = sheet_dot (Some b) c x y

-- emphasized, a dot is black where it or its left neighbour is
abbrev pub bold_dot : Bool → (ℕ → ℕ → Bool) → ℕ → ℕ → Bool
bold_dot bold glyph x y = glyph x y || bold && nat_lt 0 x && glyph (x - 1) y

-- a character with its spacing on the right, magnified
abbrev pub cell_width : Font → Style → ℕ
cell_width font style = (font_width font + style.spacing) * style.wm

abbrev pub cell_height : Font → Style → ℕ
cell_height font style = font_height font * style.hm

-- the dots of the character itself: spacing is white, and emphasis comes before magnification
abbrev pub body_dot : Sheets → Font → Style → ℕ → ℕ → ℕ → Bool
body_dot sheets font style c x y = nat_lt (x / style.wm) (font_width font)
    && bold_dot style.bold (font_dot sheets c font) (x / style.wm) (y / style.hm)

-- the lowest rows, which an underline fills, however large the character is
abbrev pub underlined : Font → Style → ℕ → Bool
underlined font style y = nat_le (cell_height font style - style.underline) y

-- dot (x, y) of a character in a style: an inverse one has no underline, and is inverted with its spacing
unfoldable pub cell_dot : Sheets → Font → Style → ℕ → ℕ → ℕ → Bool
cell_dot sheets font style c x y = nat_lt x (cell_width font style) && nat_lt y (cell_height font style)
    && (if style.inverse then not (body_dot sheets font style c x y)
    else body_dot sheets font style c x y || underlined font style y)

-- there is no ink outside
pub cell_inside : (sheets : Sheets) (font : Font) (style : Style) (c x y : ℕ)
    → cell_dot sheets font style c x y ≡ true → (x < cell_width font style) × (y < cell_height font style)
unfolding cell_dot
cell_inside sheets font style c x y e =
    let p = and_parts _ _ e in
    let q = and_parts _ _ p.0 in
    (ltb-true x (cell_width font style) q.0, ltb-true y (cell_height font style) q.1)
