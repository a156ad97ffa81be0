-- Words of the laws.
use Rattle.std.specs.Prelude.{◌≡◌, ℕ, ◌==◌, Bool, true, false, ◌&&◌, List, [], ◌∷◌, ◌++◌, codes, if◌then◌else◌}
use Rattle.vp_zpl.specs.declared.reading.Reading.{Reading}
use Rattle.vp_zpl.specs.declared.reading.Reading.TheVariants.{Profile, Whole}
use Rattle.vp_zpl.specs.declared.name.Kind.{Kind}
use Rattle.vp_zpl.specs.declared.name.Kind.TheVariants as kinds
use Rattle.vp_zpl.specs.declared.name.Plain.TheVariants as plain
use Rattle.vp_zpl.specs.declared.name.FieldCommand.TheVariants as fields
use Rattle.vp_zpl.specs.declared.name.LabelCommand.TheVariants as labels
use Rattle.vp_zpl.specs.declared.name.PrintCommand.TheVariants as prints
use Rattle.vp_zpl.specs.declared.name.BarCommand.TheVariants as bars
use Rattle.vp_zpl.specs.declared.name.LinearCommand.TheVariants as linear
use Rattle.vp_zpl.specs.declared.name.MatrixCommand.TheVariants as matrices
use Rattle.vp_zpl.specs.declared.name.ShapeCommand.TheVariants as shapes
use Rattle.vp_zpl.specs.declared.name.Name.{Name}
use Rattle.vp_zpl.specs.declared.item.Command.{Command}
use Rattle.vp_zpl.specs.declared.item.Command.TheVariants as commands
use Rattle.vp_zpl.specs.Spelling.{Kept, is_sign, is_line_end}
use Rattle.vp_zpl.specs.Commands.{Cut, wants_binary, kind_named}
use Rattle.vp_zpl.specs.Items.{Item, item_of, name_of}
use Rattle.vp_zpl.specs.Items.Item.{Given, Data}

-- a name behind ^, and the command that it is
pub record Row : Type 0 where
  pub name : List ℕ
  pub kind : Kind

abbrev pub row : List ℕ → Kind → Row
row name kind = record { name = name; kind = kind }

-- the table of the commands of the profile; ^A with its font byte stands beside it
abbrev pub profile_rows : List Row
profile_rows =
    row (codes "XA") kinds.FormatStart
    ∷ row (codes "XZ") kinds.FormatEnd
    ∷ row (codes "FS") kinds.FieldSeparator
    ∷ row (codes "FR") kinds.ReversePrint
    ∷ row (codes "FO") (kinds.Plain (plain.Field fields.Origin))
    ∷ row (codes "FT") (kinds.Plain (plain.Field fields.Typeset))
    ∷ row (codes "LH") (kinds.Plain (plain.Label labels.Home))
    ∷ row (codes "PW") (kinds.Plain (plain.Print prints.Width))
    ∷ row (codes "LL") (kinds.Plain (plain.Label labels.Length))
    ∷ row (codes "PQ") (kinds.Plain (plain.Print prints.Quantity))
    ∷ row (codes "PO") (kinds.Plain (plain.Print prints.Orientation))
    ∷ row (codes "PM") (kinds.Plain (plain.Print prints.Mirror))
    ∷ row (codes "LR") (kinds.Plain (plain.Label labels.Reverse))
    ∷ row (codes "FW") (kinds.Plain (plain.Field fields.Orientation))
    ∷ row (codes "FB") (kinds.Plain (plain.Field fields.Block))
    ∷ row (codes "CF") (kinds.Plain plain.DefaultFont)
    ∷ row (codes "BY") (kinds.Plain (plain.Bar bars.Defaults))
    ∷ row (codes "B3") (kinds.Plain (plain.Bar bars.Code39))
    ∷ row (codes "BE") (kinds.Plain (plain.Bar bars.Ean13))
    ∷ row (codes "BC") (kinds.Plain (plain.Bar bars.Code128))
    ∷ row (codes "BQ") (kinds.Plain (plain.Bar bars.QrCode))
    ∷ row (codes "GB") (kinds.Plain plain.GraphicBox)
    ∷ row (codes "GF") kinds.Graphic
    ∷ row (codes "FH") kinds.FieldHex
    ∷ row (codes "FX") (kinds.Plain (plain.Field fields.Comment))
    ∷ row (codes "FD") kinds.FieldData
    ∷ []

-- of those that the whole language adds
abbrev pub added_rows : List Row
added_rows =
    row (codes "B1") (kinds.Plain (plain.Linear linear.Code11))
    ∷ row (codes "B2") (kinds.Plain (plain.Linear linear.Interleaved))
    ∷ row (codes "B8") (kinds.Plain (plain.Linear linear.Ean8))
    ∷ row (codes "B9") (kinds.Plain (plain.Linear linear.UpcE))
    ∷ row (codes "BA") (kinds.Plain (plain.Linear linear.Code93))
    ∷ row (codes "BK") (kinds.Plain (plain.Linear linear.Codabar))
    ∷ row (codes "BM") (kinds.Plain (plain.Linear linear.Msi))
    ∷ row (codes "BS") (kinds.Plain (plain.Linear linear.AddOn))
    ∷ row (codes "BU") (kinds.Plain (plain.Linear linear.UpcA))
    ∷ row (codes "BX") (kinds.Plain (plain.Matrix matrices.DataMatrix))
    ∷ row (codes "B7") (kinds.Plain (plain.Matrix matrices.Pdf417))
    ∷ row (codes "BO") (kinds.Plain (plain.Matrix matrices.Aztec))
    ∷ row (codes "B0") (kinds.Plain (plain.Matrix matrices.Aztec))
    ∷ row (codes "GC") (kinds.Plain (plain.Shape shapes.Circle))
    ∷ row (codes "GE") (kinds.Plain (plain.Shape shapes.Ellipse))
    ∷ row (codes "GD") (kinds.Plain (plain.Shape shapes.Diagonal))
    ∷ []

-- of those that are read
abbrev pub rows : Reading → List Row
rows Profile = profile_rows
rows Whole = profile_rows ++ added_rows

abbrev pub is_named : List ℕ → ℕ → ℕ → Bool
is_named (x ∷ y ∷ []) a b = a == x && b == y
is_named _ a b = false

-- the command of the first row of this name; any other name is skipped
abbrev pub kind_in : List Row → ℕ → ℕ → Kind
kind_in [] a b = kinds.Skipped
kind_in (r ∷ more) a b = if is_named r.name a b then r.kind else kind_in more a b

-- an added command by its name alone, as the profile skips it; all other items as they are
abbrev pub narrowed_by : Command → Name → List Kept → Item
narrowed_by (commands.Linear code orientation height text above) name sent = Given commands.Skipped name []
narrowed_by (commands.DataMatrix orientation side quality columns rows escape aspect) name sent =
    Given commands.Skipped name []
narrowed_by (commands.Pdf417 orientation height level columns rows truncated) name sent =
    Given commands.Skipped name []
narrowed_by (commands.Aztec orientation side control) name sent = Given commands.Skipped name []
narrowed_by (commands.GraphicCircle diameter thickness colour) name sent = Given commands.Skipped name []
narrowed_by (commands.GraphicEllipse width height thickness colour) name sent = Given commands.Skipped name []
narrowed_by (commands.GraphicDiagonal width height thickness colour leaning) name sent =
    Given commands.Skipped name []
narrowed_by command name sent = Given command name sent

abbrev pub narrowed : Item → Item
narrowed (Given command name sent) = narrowed_by command name sent
narrowed (Data byte) = Data byte

-- an added command that stands open, which the profile has skipped by now
abbrev pub skipped_by : Kind → Name → List Item
skipped_by (kinds.Plain (plain.Linear k)) name = item_of kinds.Skipped name [] ∷ []
skipped_by (kinds.Plain (plain.Matrix k)) name = item_of kinds.Skipped name [] ∷ []
skipped_by (kinds.Plain (plain.Shape k)) name = item_of kinds.Skipped name [] ∷ []
skipped_by _ name = []

abbrev pub skipped_at_name : List ℕ → List Item
skipped_at_name (sign ∷ a ∷ b ∷ args) = skipped_by (kind_named Whole sign a b) (name_of sign a b)
skipped_at_name _ = []

-- commands that have ended, the newest first, and the one that stands open
abbrev pub cut_of : List (List ℕ) → List ℕ → Cut
cut_of before command = record { before = before; open_one = command }

-- the byte can be one more of a command: in binary data any, else no sign and no end of a line
abbrev pub Follows : Bool → ℕ → Type 0
Follows true c = Unit {0}
Follows false c = (is_sign c ≡ false) × (is_line_end c ≡ false)

-- these bytes go on with what is read of a command
abbrev pub GoesOn : Reading → List ℕ → List ℕ → Type 0
GoesOn reading front [] = Unit {0}
GoesOn reading front (c ∷ more) =
    Follows (wants_binary reading front) c × GoesOn reading (front ++ c ∷ []) more

-- one command with its parameters and data: a sign, and bytes that go on with it
abbrev pub IsCommand : Reading → List ℕ → Type 0
IsCommand reading [] = ⊥
IsCommand reading (sign ∷ more) = (is_sign sign ≡ true) × GoesOn reading (sign ∷ []) more

-- commands one after the other, the newest first, each whole; the oldest is none
abbrev pub AreCommands : Reading → List (List ℕ) → Type 0
AreCommands reading [] = ⊥
AreCommands reading ([] ∷ []) = Unit {0}
AreCommands reading (command ∷ before) =
    IsCommand reading command × (wants_binary reading command ≡ false) × AreCommands reading before

-- none, or these commands and one that stands open
abbrev pub IsCutOf : Reading → List (List ℕ) → List ℕ → Type 0
IsCutOf reading [] [] = Unit {0}
IsCutOf reading [] (c ∷ command) = ⊥
IsCutOf reading (b ∷ before) command = IsCommand reading command × AreCommands reading (b ∷ before)

abbrev pub IsCut : Reading → Cut → Type 0
IsCut reading s = IsCutOf reading s.before s.open_one
