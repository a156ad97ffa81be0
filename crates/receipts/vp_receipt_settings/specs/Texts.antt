-- How characters are drawn, by looking back over the items, of which the newest comes first.
use Rattle.std.specs.Prelude.{ℕ, nat_lt, nat_le, Bool, false, ◌&&◌, ◌||◌, if◌then◌else◌, List, [], ◌∷◌, Option, Some, None}
use Rattle.vp_esc.specs.declared.item.EscItem.{EscItem}
use Rattle.vp_esc.specs.declared.item.EscItem.TheVariants.{RightSpacing, PrintMode, Underline, Initialize, Emphasized, DoubleStrike, Font as SetFont, Magnify, Inverse}
use Rattle.vp_esc.specs.declared.item.Underline.{Underline as Rule}
use Rattle.vp_esc.specs.declared.item.Underline.TheVariants.{Off, OneRow, TwoRows}
use Rattle.vp_esc.specs.declared.item.Magnification.{Magnification}
use Rattle.vp_glyph.specs.declared.cell.Font.{Font}
use Rattle.vp_glyph.specs.declared.cell.Font.TheVariants.{A}
use Rattle.vp_glyph.specs.declared.cell.Style.{Style}
use Rattle.vp_receipt_settings.specs.declared.text.Text.{Text}

-- ESC M, ESC !: the font
abbrev pub font_or : Option Font → Font → Font
font_or (Some font) old = font
font_or None old = old

abbrev pub font : List EscItem → Font
font [] = A
font (PrintMode mode ∷ before) = mode.value.font
font (SetFont s ∷ before) = font_or s.value (font before)
font (Initialize ∷ before) = A
font (_ ∷ before) = font before

-- ESC E, ESC !: whether characters are emphasized
abbrev pub emphasized : List EscItem → Bool
emphasized [] = false
emphasized (PrintMode mode ∷ before) = mode.value.emphasized
emphasized (Emphasized s ∷ before) = s.value
emphasized (Initialize ∷ before) = false
emphasized (_ ∷ before) = emphasized before

-- ESC G: whether they are struck twice
abbrev pub double_strike : List EscItem → Bool
double_strike [] = false
double_strike (DoubleStrike s ∷ before) = s.value
double_strike (Initialize ∷ before) = false
double_strike (_ ∷ before) = double_strike before

-- ESC -, ESC !: how many rows the underline has
abbrev pub rule_rows : Rule → ℕ
rule_rows Off = 0
rule_rows OneRow = 1
rule_rows TwoRows = 2

abbrev pub rows_or : Option Rule → ℕ → ℕ
rows_or (Some rule) old = rule_rows rule
rows_or None old = old

abbrev pub underline : List EscItem → ℕ
underline [] = 0
underline (PrintMode mode ∷ before) = if mode.value.underlined then 1 else 0
underline (Underline s ∷ before) = rows_or s.value (underline before)
underline (Initialize ∷ before) = 0
underline (_ ∷ before) = underline before

-- GS B: whether black and white change places
abbrev pub inverse : List EscItem → Bool
inverse [] = false
inverse (Inverse s ∷ before) = s.value
inverse (Initialize ∷ before) = false
inverse (_ ∷ before) = inverse before

-- GS !: a magnification is 1 to 8 both ways
abbrev pub is_magnification : Magnification → Bool
is_magnification m = nat_lt 0 m.width && nat_le m.width 8 && nat_lt 0 m.height && nat_le m.height 8

abbrev pub width_or : Option Magnification → ℕ → ℕ
width_or (Some m) old = if is_magnification m then m.width else old
width_or None old = old

abbrev pub height_or : Option Magnification → ℕ → ℕ
height_or (Some m) old = if is_magnification m then m.height else old
height_or None old = old

-- GS !, ESC !: how wide a dot of a character is
abbrev pub wide : List EscItem → ℕ
wide [] = 1
wide (PrintMode mode ∷ before) = if mode.value.double_width then 2 else 1
wide (Magnify s ∷ before) = width_or s.value (wide before)
wide (Initialize ∷ before) = 1
wide (_ ∷ before) = wide before

-- GS !, ESC !: how high it is
abbrev pub high : List EscItem → ℕ
high [] = 1
high (PrintMode mode ∷ before) = if mode.value.double_height then 2 else 1
high (Magnify s ∷ before) = height_or s.value (high before)
high (Initialize ∷ before) = 1
high (_ ∷ before) = high before

-- ESC SP: the spacing right of a character
abbrev pub right_spacing : List EscItem → ℕ
right_spacing [] = 0
right_spacing (RightSpacing n ∷ before) = n
right_spacing (Initialize ∷ before) = 0
right_spacing (_ ∷ before) = right_spacing before

-- all of these
abbrev pub text_in_force : List EscItem → Text
text_in_force before = record {
  font = font before;
  emphasized = emphasized before;
  double_strike = double_strike before;
  underline = underline before;
  inverse = inverse before;
  wide = wide before;
  high = high before;
  right_spacing = right_spacing before;
}

-- the style of a character
abbrev pub style_of : Text → Style
style_of t = record {
  wm = t.wide;
  hm = t.high;
  spacing = t.right_spacing;
  bold = t.emphasized || t.double_strike;
  underline = t.underline;
  inverse = t.inverse;
}
