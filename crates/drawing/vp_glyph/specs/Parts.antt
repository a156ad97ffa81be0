-- A character as what is painted of it: its rows, each dot and each row so often, and what is black behind
-- them.
use Rattle.std.specs.Prelude.{ℕ, ◌*◌, ◌&&◌, Bool, not, nat_lt, nat_le, if◌then◌else◌}
use Rattle.vp_glyph.specs.Cells.{font_width, font_height, font_dot, bold_dot, cell_width, cell_height, underlined}
use Rattle.vp_glyph.specs.declared.cell.Font.{Font}
use Rattle.vp_glyph.specs.declared.cell.Style.{Style}
use Rattle.vp_glyph.specs.Sheets.{Sheets}

-- dot (x, y) of the character before it is magnified, black and white exchanged where it is inverse
abbrev pub row_dot : Sheets → Font → Style → ℕ → ℕ → ℕ → Bool
row_dot sheets font style c x y = nat_lt x (font_width font) && nat_lt y (font_height font)
    && (if style.inverse then not (bold_dot style.bold (font_dot sheets c font) x y)
    else bold_dot style.bold (font_dot sheets c font) x y)

-- where a character is black whatever it shows: in the spacing of an inverse one, in the underline of any
-- other
abbrev pub filled_dot : Font → Style → ℕ → ℕ → Bool
filled_dot font style x y = nat_lt x (cell_width font style) && nat_lt y (cell_height font style)
    && (if style.inverse then nat_le (font_width font * style.wm) x else underlined font style y)
