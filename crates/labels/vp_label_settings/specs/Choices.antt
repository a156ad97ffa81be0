-- Fonts, symbols and blocks, as a field asks for them.
use Rattle.std.specs.Prelude.{ℕ, Bool, true, false, Option, Some, None, option_map, is_none, unwrap_or, min, ◌-◌, ◌==◌, ◌&&◌, not, nat_le, if◌then◌else◌}
use Prim.Native.Char.{code}
use Rattle.vp_zpl.specs.declared.item.Orientation.{Orientation}
use Rattle.vp_zpl.specs.declared.item.LinearCode.{LinearCode}
use Rattle.vp_zpl.specs.declared.item.LinearCode.TheVariants as linear
use Rattle.vp_zpl.specs.declared.item.Justification.{Justification}
use Rattle.vp_zpl.specs.declared.item.Justification.TheVariants as sides
use Rattle.vp_zpl.specs.declared.item.LineSpace.{LineSpace}
use Rattle.vp_zpl.specs.declared.item.LineSpace.TheVariants.{Added, Deleted}
use Rattle.vp_zpl.specs.declared.item.Code128Mode.{Code128Mode}
use Rattle.vp_zpl.specs.declared.item.Code128Mode.TheVariants.{UccCase, Automatic, UccEan}
use Rattle.vp_bar_code.specs.declared.HriPosition.{HriPosition}
use Rattle.vp_bar_code.specs.declared.HriPosition.TheVariants as places
use Rattle.vp_glyph.specs.declared.block.Alignment.{Alignment}
use Rattle.vp_glyph.specs.declared.block.Alignment.TheVariants as aligned
use Rattle.vp_bar_code.specs.declared.BarCode.{BarCode}
use Rattle.vp_bar_code.specs.declared.BarCode.TheVariants as bars
use Rattle.vp_bar_code.specs.declared.BarCode.TheVariants.{Code128}
use Rattle.vp_bar_code.specs.declared.Code11Checks.{Code11Checks}
use Rattle.vp_bar_code.specs.declared.Code11Checks.TheVariants.{One, Two}
use Rattle.vp_bar_code.specs.declared.MsiChecks.TheVariants.{Mod10}
use Rattle.vp_bar_code.specs.declared.CodabarEnd.TheVariants as ends
use Rattle.vp_bar_code.specs.declared.CodabarEnds.TheVariants.{Around}
use Rattle.vp_bar_code.specs.declared.UpcEData.TheVariants.{MakerArticle}
use Rattle.vp_bar_code.specs.declared.Code93Data.TheVariants.{Signs}
use Rattle.vp_data_matrix.specs.declared.size.Shape.{Shape}
use Rattle.vp_data_matrix.specs.declared.size.Shape.TheVariants.{Square, Rectangle, Exactly}
use Rattle.vp_pdf417.specs.declared.size.Asked.{Asked as Pdf417Asked}
use Rattle.vp_aztec.specs.declared.size.Layers.{Layers}
use Rattle.vp_aztec.specs.declared.size.Layers.TheVariants.{Any, Compact, Full}
use Rattle.vp_label_settings.specs.declared.choice.MatrixChoice.{MatrixChoice}
use Rattle.vp_label_settings.specs.declared.choice.MatrixAsked.{MatrixAsked}
use Rattle.vp_label_settings.specs.declared.choice.MatrixAsked.TheVariants.{DataMatrix, Pdf417, Aztec}
use Rattle.vp_bar_code.specs.declared.Code128Data.TheVariants.{Invocations, Packed}
use Rattle.vp_label_settings.specs.declared.choice.SymbolChoice.{SymbolChoice}
use Rattle.vp_label_settings.specs.declared.choice.SymbolChoice.TheVariants.{Bars, NotDrawn, Qr, Matrix}
use Rattle.vp_label_settings.specs.declared.choice.FieldBlock.{FieldBlock}
use Rattle.vp_label_settings.specs.Ranges.{ranged}

-- ^B3, ^BE, ^BC: the text stands below the bars, or above them where that is asked
-- for too; by default it is there, and below
abbrev pub text_if : Bool → Bool → HriPosition
text_if false above = places.None
text_if true false = places.Below
text_if true true = places.Above

abbrev pub bar_text : Option Bool → Option Bool → HriPosition
bar_text text above = text_if (unwrap_or text true) (unwrap_or above false)

abbrev pub bar_choice : BarCode → Option Orientation → Option ℕ → Option Bool → Option Bool → SymbolChoice
bar_choice code orientation height text above =
    Bars (record { code = code; orientation = orientation; height = height; place = bar_text text above })

-- ^BC: in mode A the data choose the code sets; modes U and D aren't drawn
abbrev pub code128_choice : Option Code128Mode → Option Orientation → Option ℕ → Option Bool → Option Bool →
    SymbolChoice
code128_choice None orientation height text above =
    bar_choice (Code128 Invocations) orientation height text above
code128_choice (Some Automatic) orientation height text above =
    bar_choice (Code128 Packed) orientation height text above
code128_choice (Some UccCase) orientation height text above = NotDrawn
code128_choice (Some UccEan) orientation height text above = NotDrawn

-- ^B1: with one check character, or with two, as by default
abbrev pub code11_checks : Bool → Code11Checks
code11_checks true = One
code11_checks false = Two

-- ^B1, ^B2, ^B8, ^B9, ^BA, ^BK, ^BM, ^BS, ^BU: the bar code; by default ^B2 has no check digit, and ^BM
-- one modulo 10; ^B8, ^BU and ^BS put zeros in front of too few digits, ^B9 has the digits of maker and
-- article, and ^BK puts its start and its stop, A where they aren't said, around the data
abbrev pub linear_bars : LinearCode → BarCode
linear_bars (linear.Code11 one_check) = bars.Code11 (code11_checks (unwrap_or one_check false))
linear_bars (linear.Interleaved check) = bars.Interleaved (unwrap_or check false)
linear_bars linear.Ean8 = bars.Ean8 true
linear_bars linear.UpcE = bars.UpcE MakerArticle
linear_bars linear.Code93 = bars.Code93 Signs
linear_bars (linear.Codabar start stop) =
    bars.Codabar (Around (unwrap_or start ends.A) (unwrap_or stop ends.A))
linear_bars (linear.Msi checks) = bars.Msi (unwrap_or checks Mod10)
linear_bars linear.AddOn = bars.AddOn true
linear_bars linear.UpcA = bars.UpcA true

-- the text of ^BS stands above where nothing is said
abbrev pub stands_above : LinearCode → Bool
stands_above linear.AddOn = true
stands_above _ = false

abbrev pub linear_choice : LinearCode → Option Orientation → Option ℕ → Option Bool → Option Bool →
    SymbolChoice
linear_choice code orientation height text above =
    bar_choice (linear_bars code) orientation height text (Some (unwrap_or above (stands_above code)))

-- ^BQ: the model, and the dots of a module's side
abbrev pub qr_choice : Option ℕ → Option ℕ → SymbolChoice
qr_choice model dots = Qr (ranged 1 2 2 model) (ranged 1 10 2 dots)

-- a number that is said: 0 is none
abbrev pub said : ℕ → Option ℕ
said n = if n == 0 then None else Some n

abbrev pub number_said : Option ℕ → Option ℕ
number_said None = None
number_said (Some n) = said n

-- ^BX: the size of so many columns and rows, where one number alone is that of a square; or else all squares,
-- or all rectangles where the aspect ratio is 2
abbrev pub free_shape : Option ℕ → Shape
free_shape None = Square
free_shape (Some n) = if n == 2 then Rectangle else Square

abbrev pub shape_by : Option ℕ → Option ℕ → Option ℕ → Shape
shape_by None None aspect = free_shape aspect
shape_by (Some side) None aspect = Exactly side side
shape_by None (Some side) aspect = Exactly side side
shape_by (Some columns) (Some rows) aspect = Exactly rows columns

abbrev pub shape_of : Option ℕ → Option ℕ → Option ℕ → Shape
shape_of columns rows aspect = shape_by (number_said columns) (number_said rows) aspect

abbrev pub matrix : Option Orientation → MatrixAsked → SymbolChoice
matrix orientation asked = Matrix (record { orientation = orientation; asked = asked })

-- lengths of a module or of a row of modules, from 1 to a limit
abbrev pub up_to : ℕ → ℕ → ℕ
up_to most n = ranged 1 most 1 (Some n)

-- escapes begin with _ where no sign is said
abbrev pub data_matrix_asked : Option ℕ → Shape → Option ℕ → MatrixAsked
data_matrix_asked side shape escape =
    DataMatrix (option_map (up_to 64) (number_said side)) shape (unwrap_or escape (code "_"))

-- ^BX: only ECC 200, quality 200, is drawn
abbrev pub data_matrix_choice : Option Orientation → Option ℕ → Option ℕ → Shape → Option ℕ → SymbolChoice
data_matrix_choice orientation side None shape escape = NotDrawn
data_matrix_choice orientation side (Some quality) shape escape =
    if quality == 200 then matrix orientation (data_matrix_asked side shape escape) else NotDrawn

-- ^B7
abbrev pub within_range : ℕ → ℕ → ℕ → ℕ
within_range low high n = ranged low high low (Some n)

abbrev pub columns_asked : ℕ → ℕ → Option ℕ → Option ℕ
columns_asked low high n = option_map (within_range low high) (number_said n)

abbrev pub pdf417_asked : Option ℕ → Option ℕ → Option ℕ → Option Bool → Pdf417Asked
pdf417_asked level columns rows truncated = record {
  columns = columns_asked 1 30 columns;
  rows = columns_asked 3 90 rows;
  level = Some (ranged 0 8 0 level);
  compact = unwrap_or truncated false;
}

-- it is drawn where columns or rows are asked for
abbrev pub pdf417_choice : Option Orientation → Option ℕ → Pdf417Asked → SymbolChoice
pdf417_choice orientation height asked =
    if is_none asked.columns && is_none asked.rows then NotDrawn
    else matrix orientation (Pdf417 (option_map (up_to 1000) (number_said height)) asked)

-- ^BO: the error control
abbrev pub percent_of : ℕ → Option ℕ
percent_of control = if nat_le 1 control && nat_le control 99 then Some (within_range 5 95 control) else None

abbrev pub layers_of : ℕ → Layers
layers_of control =
    if nat_le 101 control && nat_le control 104 then Compact (control - 100)
    else if nat_le 201 control && nat_le control 232 then Full (control - 200)
    else Any

abbrev pub aztec_by : Option Orientation → Option ℕ → ℕ → SymbolChoice
aztec_by orientation side control =
    if control == 300 then NotDrawn
    else matrix orientation (Aztec (ranged 1 10 2 side)
    (record { percent = percent_of control; layers = layers_of control }))

-- a module has 1 to 10 dots, and runes aren't drawn
abbrev pub aztec_choice : Option Orientation → Option ℕ → Option ℕ → SymbolChoice
aztec_choice orientation side control = aztec_by orientation side (unwrap_or control 0)

-- ^FB: the dots between its lines
abbrev pub line_space : Option LineSpace → LineSpace
line_space None = Added 0
line_space (Some (Added dots)) = Added (min dots 9999)
line_space (Some (Deleted dots)) = Deleted (min dots 9999)

-- how they stand: justified ones stand at the left
abbrev pub alignment_of : Option Justification → Alignment
alignment_of None = aligned.Left
alignment_of (Some sides.Left) = aligned.Left
alignment_of (Some sides.Centre) = aligned.Centre
alignment_of (Some sides.Right) = aligned.Right
alignment_of (Some sides.Justified) = aligned.Left

abbrev pub field_block : Option ℕ → Option ℕ → Option LineSpace → Option Justification → FieldBlock
field_block width lines space justification = record {
  width = ranged 0 32000 0 width;
  lines = ranged 1 9999 1 lines;
  space = line_space space;
  alignment = alignment_of justification;
}
