-- Why an item is refused.
use Rattle.std.specs.Prelude.{ℕ, nat_le, nat_lt, ◌&&◌, List, [], ◌∷◌, length, Option, Some, None, Result, Ok, Err, if◌then◌else◌}
use Rattle.std.specs.Option.{option_or}
use Rattle.vp_dots.specs.declared.fault.Fault.{Fault}
use Rattle.vp_dots.specs.declared.fault.Fault.TheVariants.{FieldsFull, StoreFull}
use Rattle.vp_glyph.specs.Sheets.{Sheets}
use Rattle.vp_zpl.specs.declared.item.Command.{Command}
use Rattle.vp_zpl.specs.declared.item.Command.TheVariants.{FormatEnd, FieldSeparator}
use Rattle.vp_zpl.specs.Items.{Item}
use Rattle.vp_zpl.specs.Items.Item.{Given, Data}
use Rattle.vp_format.specs.declared.field.Field.{Field}
use Rattle.vp_format.specs.declared.format.TheConstants.{FIELDS, STORED}
use Rattle.vp_label_settings.specs.Formats.{is_open}
use Rattle.vp_label_settings.specs.Refusals.{head_refusal}
use Rattle.vp_label.specs.Entries.{all_stored, closed, entries}

-- a field is refused for what it shows, and else where as many as a format has room for are held
abbrev pub closing_refusal : Option (Result Field Fault) → ℕ → Option Fault
closing_refusal None held = None
closing_refusal (Some (Err fault)) held = Some fault
closing_refusal (Some (Ok field)) held = if nat_lt held FIELDS then None else Some FieldsFull

-- ^FS and ^XZ close a field, and ^GF has a head
abbrev pub command_refusal : Sheets → List Item → Command → Option Fault
command_refusal sheets before FieldSeparator =
    closing_refusal (closed sheets before) (length (entries sheets before))
command_refusal sheets before FormatEnd =
    closing_refusal (closed sheets before) (length (entries sheets before))
command_refusal sheets before command = head_refusal (is_open before) command

-- why an item is refused: commands act in an open format alone, and its data are stored
abbrev pub refusal : Sheets → List Item → Item → Option Fault
refusal sheets before (Given command name sent) =
    if is_open before then command_refusal sheets before command else None
refusal sheets before (Data byte) =
    if is_open before && nat_le STORED (length (all_stored before)) then Some StoreFull else None

-- why the first of these is that is refused
abbrev pub first_refusal : Sheets → List Item → List Item → Option Fault
first_refusal sheets before [] = None
first_refusal sheets before (item ∷ more) =
    option_or (refusal sheets before item) (first_refusal sheets (item ∷ before) more)
