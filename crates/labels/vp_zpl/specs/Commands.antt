-- The stream as one list of commands with their data: what is dropped is dropped, the rest is cut at ^ and ~
-- (ZPL II, "ZPL commands": each by its name).
use Rattle.std.specs.Prelude.{ℕ, ◌==◌, Bool, true, false, not, ◌&&◌, ◌||◌, Option, Some, None, List, [], ◌∷◌, ◌++◌, length, take, drop, map, nat_lt, nat_le, reverse, if◌then◌else◌}
use Prim.Native.Char.{code}
use Rattle.vp_zpl.specs.declared.reading.Reading.{Reading}
use Rattle.vp_zpl.specs.declared.reading.Reading.TheVariants.{Profile, Whole}
use Rattle.vp_zpl.specs.declared.name.Kind.{Kind}
use Rattle.vp_zpl.specs.declared.name.Kind.TheVariants as kinds
use Rattle.vp_zpl.specs.declared.name.Plain.TheVariants as plain
use Rattle.vp_zpl.specs.declared.name.FieldCommand.TheVariants as fields
use Rattle.vp_zpl.specs.declared.name.LabelCommand.TheVariants as labels
use Rattle.vp_zpl.specs.declared.name.PrintCommand.TheVariants as prints
use Rattle.vp_zpl.specs.declared.name.BarCommand.TheVariants as bars
use Rattle.vp_zpl.specs.declared.name.LinearCommand.TheVariants as linear
use Rattle.vp_zpl.specs.declared.name.MatrixCommand.TheVariants as matrices
use Rattle.vp_zpl.specs.declared.name.ShapeCommand.TheVariants as shapes
use Rattle.vp_zpl.specs.Spelling.{is_sign, is_line_end, capital, ended, parameters, kept, kept_of, Kept, number_of, behind_commas}

-- ^X.
abbrev pub format_command : ℕ → Kind
format_command b =
    if b == code "A" then kinds.FormatStart
    else if b == code "Z" then kinds.FormatEnd
    else kinds.Skipped

-- ^F.
abbrev pub field_command : ℕ → Kind
field_command b =
    if b == code "S" then kinds.FieldSeparator
    else if b == code "R" then kinds.ReversePrint
    else if b == code "O" then kinds.Plain (plain.Field fields.Origin)
    else if b == code "T" then kinds.Plain (plain.Field fields.Typeset)
    else if b == code "W" then kinds.Plain (plain.Field fields.Orientation)
    else if b == code "B" then kinds.Plain (plain.Field fields.Block)
    else if b == code "H" then kinds.FieldHex
    else if b == code "X" then kinds.Plain (plain.Field fields.Comment)
    else if b == code "D" then kinds.FieldData
    else kinds.Skipped

-- ^L.
abbrev pub label_command : ℕ → Kind
label_command b =
    if b == code "H" then kinds.Plain (plain.Label labels.Home)
    else if b == code "L" then kinds.Plain (plain.Label labels.Length)
    else if b == code "R" then kinds.Plain (plain.Label labels.Reverse)
    else kinds.Skipped

-- ^P.
abbrev pub print_command : ℕ → Kind
print_command b =
    if b == code "W" then kinds.Plain (plain.Print prints.Width)
    else if b == code "Q" then kinds.Plain (plain.Print prints.Quantity)
    else if b == code "O" then kinds.Plain (plain.Print prints.Orientation)
    else if b == code "M" then kinds.Plain (plain.Print prints.Mirror)
    else kinds.Skipped

-- ^B.
abbrev pub bar_command : ℕ → Kind
bar_command b =
    if b == code "Y" then kinds.Plain (plain.Bar bars.Defaults)
    else if b == code "3" then kinds.Plain (plain.Bar bars.Code39)
    else if b == code "E" then kinds.Plain (plain.Bar bars.Ean13)
    else if b == code "C" then kinds.Plain (plain.Bar bars.Code128)
    else if b == code "Q" then kinds.Plain (plain.Bar bars.QrCode)
    else kinds.Skipped

-- ^G.
abbrev pub graphic_command : ℕ → Kind
graphic_command b =
    if b == code "B" then kinds.Plain plain.GraphicBox
    else if b == code "F" then kinds.Graphic
    else kinds.Skipped

-- the commands of the profile, each by ^ and two capitals; ^A's second byte is its font, whatever it is
abbrev pub profile_kind : ℕ → ℕ → ℕ → Kind
profile_kind sign a b =
    if not (sign == code "^") then kinds.Skipped
    else if a == code "X" then format_command b
    else if a == code "F" then field_command b
    else if a == code "L" then label_command b
    else if a == code "P" then print_command b
    else if a == code "B" then bar_command b
    else if a == code "G" then graphic_command b
    else if a == code "A" then kinds.Plain plain.Font
    else if a == code "C" && b == code "F" then kinds.Plain plain.DefaultFont
    else kinds.Skipped

-- What the whole language adds: two-dimensional symbols,
abbrev pub added_matrix : ℕ → Kind
added_matrix b =
    if b == code "X" then kinds.Plain (plain.Matrix matrices.DataMatrix)
    else if b == code "7" then kinds.Plain (plain.Matrix matrices.Pdf417)
    else if b == code "O" || b == code "0" then kinds.Plain (plain.Matrix matrices.Aztec)
    else kinds.Skipped

-- shapes,
abbrev pub added_shape : ℕ → Kind
added_shape b =
    if b == code "C" then kinds.Plain (plain.Shape shapes.Circle)
    else if b == code "E" then kinds.Plain (plain.Shape shapes.Ellipse)
    else if b == code "D" then kinds.Plain (plain.Shape shapes.Diagonal)
    else kinds.Skipped

-- and all of ^B.
abbrev pub added_bar : ℕ → Kind
added_bar b =
    if b == code "1" then kinds.Plain (plain.Linear linear.Code11)
    else if b == code "2" then kinds.Plain (plain.Linear linear.Interleaved)
    else if b == code "8" then kinds.Plain (plain.Linear linear.Ean8)
    else if b == code "9" then kinds.Plain (plain.Linear linear.UpcE)
    else if b == code "A" then kinds.Plain (plain.Linear linear.Code93)
    else if b == code "K" then kinds.Plain (plain.Linear linear.Codabar)
    else if b == code "M" then kinds.Plain (plain.Linear linear.Msi)
    else if b == code "S" then kinds.Plain (plain.Linear linear.AddOn)
    else if b == code "U" then kinds.Plain (plain.Linear linear.UpcA)
    else added_matrix b

abbrev pub added_kind : ℕ → ℕ → ℕ → Kind
added_kind sign a b =
    if not (sign == code "^") then kinds.Skipped
    else if a == code "B" then added_bar b
    else if a == code "G" then added_shape b
    else kinds.Skipped

-- one that the profile doesn't have may be one of these
abbrev pub or_added : Kind → Kind → Kind
or_added kinds.Skipped added = added
or_added known added = known

-- the commands that are read, by the reading
unfoldable pub kind_of : Reading → ℕ → ℕ → ℕ → Kind
kind_of Profile sign a b = profile_kind sign a b
kind_of Whole sign a b = or_added (profile_kind sign a b) (added_kind sign a b)

-- names are read in either case
abbrev pub kind_named : Reading → ℕ → ℕ → ℕ → Kind
kind_named reading sign a b = kind_of reading sign (capital a) (capital b)

-- what a command is once its name is whole
unfoldable pub kind : Reading → List ℕ → Option Kind
kind reading (sign ∷ a ∷ b ∷ args) = Some (kind_named reading sign a b)
kind reading _ = None

-- ^GF's first parameter says B
abbrev pub spells_b : List ℕ → Bool
spells_b (c ∷ []) = capital c == code "B"
spells_b _ = false

abbrev pub is_b : List Kept → Bool
is_b [] = false
is_b (p ∷ more) = spells_b p.bytes

abbrev pub count_in : Option ℕ → ℕ
count_in None = 0
count_in (Some n) = n

-- its second says how many bytes of binary data follow; missing or unreadable: none
abbrev pub count_of : List Kept → ℕ
count_of (a ∷ b ∷ more) = count_in (number_of b)
count_of _ = 0

-- ^GF's head, the four parameters before its fourth comma, is whole
unfoldable pub is_whole : List ℕ → Bool
is_whole args = nat_le 4 (length (ended [] args))

unfoldable pub head : List ℕ → List Kept
head args = take 4 (map kept (ended [] args))

-- binary data is wanted: fewer than b bytes stand behind the fourth comma
unfoldable pub is_short : List ℕ → Bool
is_short args =
    is_whole args && is_b (head args) && nat_lt (length (behind_commas 4 args)) (count_of (head args))

abbrev pub wants_binary_named : Kind → List ℕ → Bool
wants_binary_named kinds.Graphic args = is_short args
wants_binary_named _ args = false

unfoldable pub wants_binary : Reading → List ℕ → Bool
wants_binary reading (sign ∷ a ∷ b ∷ args) = wants_binary_named (kind_named reading sign a b) args
wants_binary reading _ = false

-- the commands that another has ended, the newest first, and the one that stands open; the oldest is empty
pub record Cut : Type 0 where
  pub before : List (List ℕ)
  pub open_one : List ℕ

-- bytes before the first sign are skipped
abbrev pub longer : List ℕ → ℕ → List ℕ
longer [] c = []
longer (sign ∷ bytes) c = sign ∷ bytes ++ c ∷ []

-- one more byte: binary data takes any; else the ends of lines are dropped, and a sign begins a command
abbrev pub with_byte : Reading → Cut → ℕ → Cut
with_byte reading s c =
    if wants_binary reading s.open_one then record s { open_one = longer s.open_one c }
    else if is_line_end c then s
    else if is_sign c then record { before = s.open_one ∷ s.before; open_one = c ∷ [] }
    else record s { open_one = longer s.open_one c }

-- of the bytes, the newest first
abbrev pub cut_back : Reading → List ℕ → Cut
cut_back reading [] = record { before = []; open_one = [] }
cut_back reading (c ∷ bytes) = with_byte reading (cut_back reading bytes) c

unfoldable pub cut : Reading → List ℕ → Cut
cut reading bytes = cut_back reading (reverse bytes)

-- a format is open: the last of ^XA and ^XZ is ^XA
abbrev pub in_format_by : Option Kind → Bool → Bool
in_format_by (Some kinds.FormatStart) was = true
in_format_by (Some kinds.FormatEnd) was = false
in_format_by _ was = was

unfoldable pub in_format : Reading → List (List ℕ) → Bool
in_format reading [] = false
in_format reading (command ∷ before) = in_format_by (kind reading command) (in_format reading before)

-- ^FH's indicator: the one byte given, else _
abbrev pub indicator_spelled : List ℕ → ℕ
indicator_spelled (c ∷ []) = c
indicator_spelled _ = code "_"

abbrev pub indicator_in : List Kept → ℕ
indicator_in [] = code "_"
indicator_in (p ∷ more) = indicator_spelled p.bytes

abbrev pub indicator_by : Option Kind → List ℕ → Bool → Option ℕ → Option ℕ
indicator_by (Some kinds.FieldHex) command true was =
    Some (indicator_in (kept_of (parameters (drop 3 command))))
indicator_by (Some kinds.FieldSeparator) command opened was = None
indicator_by (Some kinds.FormatEnd) command opened was = None
indicator_by _ command opened was = was

-- the indicator that acts on data: of the last ^FH in the open format, up to ^FS or ^XZ
unfoldable pub indicator : Reading → List (List ℕ) → Option ℕ
indicator reading [] = None
indicator reading (command ∷ before) =
    indicator_by (kind reading command) command (in_format reading before) (indicator reading before)
