-- What the bytes of arguments stand for, by the name of the command in Epson's reference.
use Rattle.std.specs.Prelude.{ℕ, ◌+◌, ◌/◌, ◌%◌, ◌^◌, ◌==◌, Bool, false, ◌&&◌, nat_le, ◌||◌, Option, Some, None}
use Rattle.std.specs.Prelude.{if◌then◌else◌}
use Rattle.std.specs.Option.{option_or}
use Rattle.vp_esc.specs.declared.reading.Reading.{Reading}
use Rattle.vp_esc.specs.declared.reading.Reading.TheVariants.{Profile, Whole}
use Rattle.vp_esc.specs.declared.item.Spelled.{Spelled}
use Rattle.vp_esc.specs.declared.item.Underline.{Underline}
use Rattle.vp_esc.specs.declared.item.Underline.TheVariants.{Off, OneRow, TwoRows}
use Rattle.vp_glyph.specs.declared.cell.Font.{Font}
use Rattle.vp_glyph.specs.declared.cell.Font.TheVariants.{A, B}
use Rattle.vp_glyph.specs.declared.block.Alignment.{Alignment}
use Rattle.vp_glyph.specs.declared.block.Alignment.TheVariants.{Left, Centre, Right}
use Rattle.vp_esc.specs.declared.item.PrintDirection.{PrintDirection}
use Rattle.vp_esc.specs.declared.item.PrintDirection.TheVariants.{LeftToRight, BottomToTop, RightToLeft}
use Rattle.vp_esc.specs.declared.item.PrintDirection.TheVariants.{TopToBottom}
use Rattle.vp_esc.specs.declared.item.PrintMode.{PrintMode}
use Rattle.vp_esc.specs.declared.item.Magnification.{Magnification}
use Rattle.vp_bar_code.specs.declared.HriPosition.{HriPosition}
use Rattle.vp_bar_code.specs.declared.HriPosition.TheVariants as positions
use Rattle.vp_esc.specs.declared.item.Cut.{Cut}
use Rattle.vp_esc.specs.declared.item.Cut.TheVariants.{Full, Partial}
use Rattle.vp_esc.specs.declared.item.ColumnMode.{ColumnMode}
use Rattle.vp_esc.specs.declared.item.ColumnMode.TheVariants.{Single8, Double8, Single24, Double24}
use Rattle.vp_esc.specs.declared.item.RasterScale.{RasterScale}
use Rattle.vp_esc.specs.declared.item.RasterScale.TheVariants.{Normal, DoubleWidth, DoubleHeight, Quadruple}
use Rattle.vp_bar_code.specs.declared.BarCode.{BarCode}
use Rattle.vp_bar_code.specs.declared.BarCode.TheVariants.{Ean13, Code39, Code128, UpcA, UpcE, Ean8}
use Rattle.vp_bar_code.specs.declared.BarCode.TheVariants.{Interleaved, Codabar, Code93}
use Rattle.vp_bar_code.specs.declared.Code128Data.TheVariants.{Escapes}
use Rattle.vp_bar_code.specs.declared.CodabarEnds.TheVariants.{Data}
use Rattle.vp_bar_code.specs.declared.UpcEData.TheVariants.{Digits}
use Rattle.vp_bar_code.specs.declared.Code93Data.TheVariants.{Ascii}
use Rattle.vp_esc.specs.declared.item.QrModel.{QrModel}
use Rattle.vp_esc.specs.declared.item.QrModel.TheVariants as models
use Rattle.vp_esc.specs.declared.item.QrLevel.{QrLevel}
use Rattle.vp_esc.specs.declared.item.QrLevel.TheVariants as levels

-- a byte, and what it stands for
abbrev pub spelled : {T : Type 0} → ℕ → T → Spelled T
spelled byte value = record { byte = byte; value = value }

-- bit k, the lowest being 0
abbrev pub bit : ℕ → ℕ → Bool
bit n k = n / 2 ^ k % 2 == 1

-- ESC -
abbrev pub underline_of : ℕ → Option Underline
underline_of n =
    if n == 0 || n == 48 then Some Off
    else if n == 1 || n == 49 then Some OneRow
    else if n == 2 || n == 50 then Some TwoRows
    else None

-- ESC M, GS f
abbrev pub font_of : ℕ → Option Font
font_of n = if n == 0 || n == 48 then Some A else if n == 1 || n == 49 then Some B else None

-- ESC a
abbrev pub justification_of : ℕ → Option Alignment
justification_of n =
    if n == 0 || n == 48 then Some Left
    else if n == 1 || n == 49 then Some Centre
    else if n == 2 || n == 50 then Some Right
    else None

-- ESC T
abbrev pub direction_of : ℕ → Option PrintDirection
direction_of n =
    if n == 0 || n == 48 then Some LeftToRight
    else if n == 1 || n == 49 then Some BottomToTop
    else if n == 2 || n == 50 then Some RightToLeft
    else if n == 3 || n == 51 then Some TopToBottom
    else None

-- ESC !: bit 0 font B, 3 emphasized, 4 double height, 5 double width, 7 underlined
abbrev pub print_mode_of : ℕ → PrintMode
print_mode_of n =
    record {
      font = if bit n 0 then B else A;
      emphasized = bit n 3;
      double_height = bit n 4;
      double_width = bit n 5;
      underlined = bit n 7;
    }

-- GS !: bits 0 to 2 one less than the height, 4 to 6 one less than the width, 3 and 7 clear
abbrev pub magnification_of : ℕ → Option Magnification
magnification_of n =
    if bit n 3 || bit n 7 then None else Some (record { width = 1 + n / 16 % 8; height = 1 + n % 8 })

-- GS H
abbrev pub hri_position_of : ℕ → Option HriPosition
hri_position_of n =
    if n == 0 || n == 48 then Some positions.None
    else if n == 1 || n == 49 then Some positions.Above
    else if n == 2 || n == 50 then Some positions.Below
    else if n == 3 || n == 51 then Some positions.Both
    else None

-- GS V, function A: cuts
abbrev pub is_cut : ℕ → Bool
is_cut m = m == 0 || m == 1 || m == 48 || m == 49

-- GS V, function B: feeds n dots and cuts
abbrev pub is_feed_cut : ℕ → Bool
is_feed_cut m = m == 65 || m == 66

-- GS V, functions C and D: cuts later, or takes the paper back behind the cut
abbrev pub is_other_cut : ℕ → Bool
is_other_cut m = m == 97 || m == 98 || m == 103 || m == 104

-- what of these m is a full cut
abbrev pub cut_of : ℕ → Cut
cut_of m = if m == 0 || m == 48 || m == 65 then Full else Partial

-- ESC *: the modes
abbrev pub is_column_mode : ℕ → Bool
is_column_mode m = m == 0 || m == 1 || m == 32 || m == 33

abbrev pub column_mode_of : ℕ → ColumnMode
column_mode_of m =
    if m == 0 then Single8 else if m == 1 then Double8 else if m == 32 then Single24 else Double24

-- the bytes of a column
abbrev pub column_bytes : ColumnMode → ℕ
column_bytes Single8 = 1
column_bytes Double8 = 1
column_bytes Single24 = 3
column_bytes Double24 = 3

-- GS v 0
abbrev pub scale_of : ℕ → Option RasterScale
scale_of m =
    if m == 0 || m == 48 then Some Normal
    else if m == 1 || m == 49 then Some DoubleWidth
    else if m == 2 || m == 50 then Some DoubleHeight
    else if m == 3 || m == 51 then Some Quadruple
    else None

-- GS k: the kinds whose data end at a 0, and those whose data are counted
abbrev pub is_kind_to_zero : ℕ → Bool
is_kind_to_zero m = nat_le m 6

abbrev pub is_kind_counted : ℕ → Bool
is_kind_counted m = nat_le 65 m && nat_le m 73

-- GS k: the counted kinds that the whole language adds
abbrev pub is_added_kind : ℕ → Bool
is_added_kind m = nat_le 74 m && nat_le m 79

-- GS k: the kinds that the profile draws,
abbrev pub profile_bar_code : ℕ → Option BarCode
profile_bar_code m =
    if m == 2 || m == 67 then Some (Ean13 false)
    else if m == 4 || m == 69 then Some (Code39 false)
    else if m == 73 then Some (Code128 Escapes)
    else None

-- and those that the whole language adds
abbrev pub added_bar_code : ℕ → Option BarCode
added_bar_code m =
    if m == 0 || m == 65 then Some (UpcA false)
    else if m == 1 || m == 66 then Some (UpcE Digits)
    else if m == 3 || m == 68 then Some (Ean8 false)
    else if m == 5 || m == 70 then Some (Interleaved false)
    else if m == 6 || m == 71 then Some (Codabar Data)
    else if m == 72 then Some (Code93 Ascii)
    else None

-- GS k: the bar code that a kind draws
abbrev pub bar_code_of : Reading → ℕ → Option BarCode
bar_code_of Profile m = profile_bar_code m
bar_code_of Whole m = option_or (profile_bar_code m) (added_bar_code m)

-- GS ( k, function 65
abbrev pub qr_model_of : ℕ → Option QrModel
qr_model_of n =
    if n == 49 then Some models.One
    else if n == 50 then Some models.Two
    else if n == 51 then Some models.Micro
    else None

-- GS ( k, function 69
abbrev pub qr_level_of : ℕ → Option QrLevel
qr_level_of n =
    if n == 48 then Some levels.L
    else if n == 49 then Some levels.M
    else if n == 50 then Some levels.Q
    else if n == 51 then Some levels.H
    else None
