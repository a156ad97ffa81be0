-- What the parameters of a command mean.
use Rattle.std.specs.Prelude.{ℕ, ◌+◌, ◌*◌, ◌-◌, ◌==◌, Bool, true, false, ◌&&◌, ◌||◌, Option, Some, None, List, [], ◌∷◌, length, take, drop, slice_get, if◌then◌else◌}
use Prim.Native.Char.{code}
use Rattle.vp_zpl.specs.declared.name.Kind.{Kind}
use Rattle.vp_zpl.specs.declared.name.Kind.TheVariants as kinds
use Rattle.vp_zpl.specs.declared.name.Plain.{Plain}
use Rattle.vp_zpl.specs.declared.name.Plain.TheVariants as plain
use Rattle.vp_zpl.specs.declared.name.FieldCommand.{FieldCommand}
use Rattle.vp_zpl.specs.declared.name.FieldCommand.TheVariants as fields
use Rattle.vp_zpl.specs.declared.name.LabelCommand.{LabelCommand}
use Rattle.vp_zpl.specs.declared.name.LabelCommand.TheVariants as labels
use Rattle.vp_zpl.specs.declared.name.PrintCommand.{PrintCommand}
use Rattle.vp_zpl.specs.declared.name.PrintCommand.TheVariants as prints
use Rattle.vp_zpl.specs.declared.name.BarCommand.{BarCommand}
use Rattle.vp_zpl.specs.declared.name.BarCommand.TheVariants as bars
use Rattle.vp_zpl.specs.declared.name.LinearCommand.{LinearCommand}
use Rattle.vp_zpl.specs.declared.name.LinearCommand.TheVariants as linear
use Rattle.vp_zpl.specs.declared.name.MatrixCommand.{MatrixCommand}
use Rattle.vp_zpl.specs.declared.name.MatrixCommand.TheVariants as matrices
use Rattle.vp_zpl.specs.declared.name.ShapeCommand.{ShapeCommand}
use Rattle.vp_zpl.specs.declared.name.ShapeCommand.TheVariants as shapes
use Rattle.vp_bar_code.specs.declared.CodabarEnd.{CodabarEnd}
use Rattle.vp_bar_code.specs.declared.CodabarEnd.TheVariants as ends
use Rattle.vp_bar_code.specs.declared.MsiChecks.{MsiChecks}
use Rattle.vp_bar_code.specs.declared.MsiChecks.TheVariants as checks
use Rattle.vp_zpl.specs.declared.item.LinearCode.{LinearCode}
use Rattle.vp_zpl.specs.declared.item.LinearCode.TheVariants as codes
use Rattle.vp_zpl.specs.declared.item.Orientation.{Orientation}
use Rattle.vp_zpl.specs.declared.item.Orientation.TheVariants as turns
use Rattle.vp_zpl.specs.declared.item.Colour.{Colour}
use Rattle.vp_zpl.specs.declared.item.Colour.TheVariants as colours
use Rattle.vp_shapes.specs.declared.diagonal.Leaning.{Leaning}
use Rattle.vp_shapes.specs.declared.diagonal.Leaning.TheVariants as leanings
use Rattle.vp_zpl.specs.declared.item.GraphicFormat.{GraphicFormat}
use Rattle.vp_zpl.specs.declared.item.GraphicFormat.TheVariants as formats
use Rattle.vp_zpl.specs.declared.item.Code128Mode.{Code128Mode}
use Rattle.vp_zpl.specs.declared.item.Code128Mode.TheVariants as modes
use Rattle.vp_zpl.specs.declared.item.Justification.{Justification}
use Rattle.vp_zpl.specs.declared.item.Justification.TheVariants as sides
use Rattle.vp_zpl.specs.declared.item.LineSpace.{LineSpace}
use Rattle.vp_zpl.specs.declared.item.LineSpace.TheVariants as spaces
use Rattle.vp_zpl.specs.declared.item.Command.{Command}
use Rattle.vp_zpl.specs.declared.item.Command.TheVariants as commands
use Rattle.vp_zpl.specs.Spelling.{Kept, capital, is_digit, number_in, number_of}

-- the n-th parameter's number, counted from 0
abbrev pub number_if : Option Kept → Option ℕ
number_if None = None
number_if (Some p) = number_of p

abbrev pub number_at : ℕ → List Kept → Option ℕ
number_at n ps = number_if (slice_get ps n)

-- a parameter of one byte
abbrev pub byte_in : List ℕ → Option ℕ
byte_in (c ∷ []) = Some c
byte_in _ = None

abbrev pub byte_if : Option Kept → Option ℕ
byte_if None = None
byte_if (Some p) = byte_in p.bytes

abbrev pub byte_at : ℕ → List Kept → Option ℕ
byte_at n ps = byte_if (slice_get ps n)

-- a letter, in either case
abbrev pub capital_if : Option ℕ → Option ℕ
capital_if None = None
capital_if (Some c) = Some (capital c)

unfoldable pub letter_at : ℕ → List Kept → Option ℕ
letter_at n ps = capital_if (byte_at n ps)

-- N, R, I, B
abbrev pub orientation_of : Option ℕ → Option Orientation
orientation_of None = None
orientation_of (Some c) =
    if c == code "N" then Some turns.Normal
    else if c == code "R" then Some turns.Rotated
    else if c == code "I" then Some turns.Inverted
    else if c == code "B" then Some turns.BottomUp
    else None

-- one of two letters, the first of which says yes
abbrev pub either_of : ℕ → ℕ → Option ℕ → Option Bool
either_of a b None = None
either_of a b (Some c) = if c == a then Some true else if c == b then Some false else None

-- Y, N
abbrev pub yes_at : ℕ → List Kept → Option Bool
yes_at n ps = either_of (code "Y") (code "N") (letter_at n ps)

-- I, N
abbrev pub inverted_at : ℕ → List Kept → Option Bool
inverted_at n ps = either_of (code "I") (code "N") (letter_at n ps)

abbrev pub orientation_at : ℕ → List Kept → Option Orientation
orientation_at n ps = orientation_of (letter_at n ps)

-- B, W
abbrev pub colour_of : Option ℕ → Option Colour
colour_of None = None
colour_of (Some c) =
    if c == code "B" then Some colours.Black else if c == code "W" then Some colours.White else None

-- R or /, L or a backslash
abbrev pub leaning_of : Option ℕ → Option Leaning
leaning_of None = None
leaning_of (Some c) =
    if c == code "R" || c == code "/" then Some leanings.Right
    else if c == code "L" || c == code "\\" then Some leanings.Left
    else None

-- A, B; another that was sent is told apart from none
abbrev pub format_by : Option ℕ → GraphicFormat
format_by None = formats.Other
format_by (Some c) =
    if c == code "A" then formats.Ascii else if c == code "B" then formats.Binary else formats.Other

abbrev pub is_sent : Option Kept → Bool
is_sent None = false
is_sent (Some p) = if length p.bytes == 0 then false else true

abbrev pub format_of : List Kept → Option GraphicFormat
format_of ps = if is_sent (slice_get ps 0) then Some (format_by (letter_at 0 ps)) else None

-- U, A, D
abbrev pub mode_of : Option ℕ → Option Code128Mode
mode_of None = None
mode_of (Some c) =
    if c == code "U" then Some modes.UccCase
    else if c == code "A" then Some modes.Automatic
    else if c == code "D" then Some modes.UccEan
    else None

-- A, B, C, D
abbrev pub msi_checks_of : Option ℕ → Option MsiChecks
msi_checks_of None = None
msi_checks_of (Some c) =
    if c == code "A" then Some checks.None
    else if c == code "B" then Some checks.Mod10
    else if c == code "C" then Some checks.Mod10Twice
    else if c == code "D" then Some checks.Mod11Mod10
    else None

-- A, B, C, D, which are also T, N, *, E
abbrev pub codabar_end_of : Option ℕ → Option CodabarEnd
codabar_end_of None = None
codabar_end_of (Some c) =
    if c == code "A" || c == code "T" then Some ends.A
    else if c == code "B" || c == code "N" then Some ends.B
    else if c == code "C" || c == code "*" then Some ends.C
    else if c == code "D" || c == code "E" then Some ends.D
    else None

-- L, C, R, J
abbrev pub justification_of : Option ℕ → Option Justification
justification_of None = None
justification_of (Some c) =
    if c == code "L" then Some sides.Left
    else if c == code "C" then Some sides.Centre
    else if c == code "R" then Some sides.Right
    else if c == code "J" then Some sides.Justified
    else None

-- a number, perhaps with - before it
abbrev pub added : Option ℕ → Option LineSpace
added None = None
added (Some n) = Some (spaces.Added n)

abbrev pub deleted : Option ℕ → Option LineSpace
deleted None = None
deleted (Some n) = Some (spaces.Deleted n)

abbrev pub space_in : Bool → List ℕ → Option LineSpace
space_in is_long [] = None
space_in is_long (c ∷ digits) =
    if c == code "-" then deleted (number_in is_long digits) else added (number_in is_long (c ∷ digits))

abbrev pub space_if : Option Kept → Option LineSpace
space_if None = None
space_if (Some p) = space_in p.is_long p.bytes

-- digits, perhaps a point and one digit: in tenths
abbrev pub tenth_behind : List ℕ → Option ℕ
tenth_behind (c ∷ d ∷ []) = if c == code "." && is_digit d then Some (d - code "0") else None
tenth_behind _ = None

abbrev pub tenths : Option ℕ → ℕ → Option ℕ
tenths None tenth = None
tenths (Some n) tenth = Some (10 * n + tenth)

abbrev pub tenths_by : Option ℕ → Kept → Option ℕ
tenths_by None p = tenths (number_of p) 0
tenths_by (Some tenth) p = tenths (number_in p.is_long (take (length p.bytes - 2) p.bytes)) tenth

unfoldable pub tenths_of : Kept → Option ℕ
tenths_of p = tenths_by (tenth_behind (drop (length p.bytes - 2) p.bytes)) p

abbrev pub tenths_if : Option Kept → Option ℕ
tenths_if None = None
tenths_if (Some p) = tenths_of p

-- ^F
abbrev pub field_command_of : FieldCommand → List Kept → Command
field_command_of fields.Origin ps = commands.FieldOrigin (number_at 0 ps) (number_at 1 ps)
field_command_of fields.Typeset ps = commands.FieldTypeset (number_at 0 ps) (number_at 1 ps)
field_command_of fields.Orientation ps = commands.FieldOrientation (orientation_at 0 ps)
field_command_of fields.Block ps =
    commands.FieldBlock (number_at 0 ps) (number_at 1 ps) (space_if (slice_get ps 2))
    (justification_of (letter_at 3 ps))
field_command_of fields.Comment ps = commands.Comment

-- ^L
abbrev pub label_command_of : LabelCommand → List Kept → Command
label_command_of labels.Home ps = commands.LabelHome (number_at 0 ps) (number_at 1 ps)
label_command_of labels.Length ps = commands.LabelLength (number_at 0 ps)
label_command_of labels.Reverse ps = commands.LabelReverse (yes_at 0 ps)

-- ^P
abbrev pub print_command_of : PrintCommand → List Kept → Command
print_command_of prints.Width ps = commands.PrintWidth (number_at 0 ps)
print_command_of prints.Quantity ps = commands.PrintQuantity (number_at 0 ps)
print_command_of prints.Orientation ps = commands.PrintOrientation (inverted_at 0 ps)
print_command_of prints.Mirror ps = commands.MirrorImage (yes_at 0 ps)

-- ^B
abbrev pub bar_command_of : BarCommand → List Kept → Command
bar_command_of bars.Defaults ps =
    commands.BarDefaults (number_at 0 ps) (tenths_if (slice_get ps 1)) (number_at 2 ps)
bar_command_of bars.Code39 ps =
    commands.Code39 (orientation_at 0 ps) (yes_at 1 ps) (number_at 2 ps) (yes_at 3 ps) (yes_at 4 ps)
bar_command_of bars.Ean13 ps =
    commands.Ean13 (orientation_at 0 ps) (number_at 1 ps) (yes_at 2 ps) (yes_at 3 ps)
bar_command_of bars.Code128 ps =
    commands.Code128 (orientation_at 0 ps) (number_at 1 ps) (yes_at 2 ps) (yes_at 3 ps)
    (mode_of (letter_at 5 ps))
bar_command_of bars.QrCode ps = commands.QrCode (number_at 1 ps) (number_at 2 ps)

-- ^B in the whole language: the height is the second parameter, or the third behind check digits
abbrev pub linear_symbol : LinearCode → List Kept → Command
linear_symbol code ps =
    commands.Linear code (orientation_at 0 ps) (number_at 1 ps) (yes_at 2 ps) (yes_at 3 ps)

abbrev pub late_symbol : LinearCode → List Kept → Command
late_symbol code ps =
    commands.Linear code (orientation_at 0 ps) (number_at 2 ps) (yes_at 3 ps) (yes_at 4 ps)

abbrev pub linear_command_of : LinearCommand → List Kept → Command
linear_command_of linear.Code11 ps = late_symbol (codes.Code11 (yes_at 1 ps)) ps
linear_command_of linear.Interleaved ps = linear_symbol (codes.Interleaved (yes_at 4 ps)) ps
linear_command_of linear.Ean8 ps = linear_symbol codes.Ean8 ps
linear_command_of linear.UpcE ps = linear_symbol codes.UpcE ps
linear_command_of linear.Code93 ps = linear_symbol codes.Code93 ps
linear_command_of linear.Codabar ps =
    late_symbol (codes.Codabar (codabar_end_of (letter_at 5 ps)) (codabar_end_of (letter_at 6 ps))) ps
linear_command_of linear.Msi ps = late_symbol (codes.Msi (msi_checks_of (letter_at 1 ps))) ps
linear_command_of linear.AddOn ps = linear_symbol codes.AddOn ps
linear_command_of linear.UpcA ps = linear_symbol codes.UpcA ps

-- ^BX, ^B7, ^BO
abbrev pub matrix_command_of : MatrixCommand → List Kept → Command
matrix_command_of matrices.DataMatrix ps =
    commands.DataMatrix (orientation_at 0 ps) (number_at 1 ps) (number_at 2 ps) (number_at 3 ps)
    (number_at 4 ps) (byte_at 6 ps) (number_at 7 ps)
matrix_command_of matrices.Pdf417 ps =
    commands.Pdf417 (orientation_at 0 ps) (number_at 1 ps) (number_at 2 ps) (number_at 3 ps)
    (number_at 4 ps) (yes_at 5 ps)
matrix_command_of matrices.Aztec ps = commands.Aztec (orientation_at 0 ps) (number_at 1 ps) (number_at 3 ps)

-- ^GC, ^GE, ^GD
abbrev pub shape_command_of : ShapeCommand → List Kept → Command
shape_command_of shapes.Circle ps =
    commands.GraphicCircle (number_at 0 ps) (number_at 1 ps) (colour_of (letter_at 2 ps))
shape_command_of shapes.Ellipse ps =
    commands.GraphicEllipse (number_at 0 ps) (number_at 1 ps) (number_at 2 ps) (colour_of (letter_at 3 ps))
shape_command_of shapes.Diagonal ps =
    commands.GraphicDiagonal (number_at 0 ps) (number_at 1 ps) (number_at 2 ps) (colour_of (letter_at 3 ps))
    (leaning_of (letter_at 4 ps))

abbrev pub plain_command : Plain → List Kept → Command
plain_command (plain.Field k) ps = field_command_of k ps
plain_command (plain.Label k) ps = label_command_of k ps
plain_command (plain.Print k) ps = print_command_of k ps
plain_command (plain.Bar k) ps = bar_command_of k ps
plain_command (plain.Linear k) ps = linear_command_of k ps
plain_command (plain.Matrix k) ps = matrix_command_of k ps
plain_command (plain.Shape k) ps = shape_command_of k ps
plain_command plain.GraphicBox ps =
    commands.GraphicBox (number_at 0 ps) (number_at 1 ps) (number_at 2 ps) (colour_of (letter_at 3 ps))
plain_command plain.Font ps = commands.Font (orientation_at 0 ps) (number_at 1 ps) (number_at 2 ps)
plain_command plain.DefaultFont ps = commands.DefaultFont (number_at 1 ps) (number_at 2 ps)

-- the command of these parameters
unfoldable pub command_of : Kind → List Kept → Command
command_of kinds.FormatStart ps = commands.FormatStart
command_of kinds.FormatEnd ps = commands.FormatEnd
command_of kinds.FieldSeparator ps = commands.FieldSeparator
command_of kinds.ReversePrint ps = commands.ReversePrint
command_of kinds.FieldHex ps = commands.FieldHex (byte_at 0 ps)
command_of (kinds.Plain k) ps = plain_command k ps
command_of kinds.FieldData ps = commands.FieldData
command_of kinds.Graphic ps =
    commands.Graphic (format_of ps) (number_at 1 ps) (number_at 2 ps) (number_at 3 ps)
command_of kinds.Skipped ps = commands.Skipped
