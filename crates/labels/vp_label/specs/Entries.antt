-- The fields of a format as they are kept, by looking back over the items, of which the newest comes first.
use Rattle.std.specs.Prelude.{ℕ, ◌+◌, ◌-◌, List, [], ◌∷◌, ◌++◌, length, Option, Some, None, option_map, Result, Ok, Err, if◌then◌else◌}
use Rattle.vp_dots.specs.declared.fault.Fault.{Fault}
use Rattle.vp_glyph.specs.Sheets.{Sheets}
use Rattle.vp_zpl.specs.declared.item.Command.{Command}
use Rattle.vp_zpl.specs.declared.item.Command.TheVariants.{FormatEnd, FieldSeparator}
use Rattle.vp_zpl.specs.Items.{Item}
use Rattle.vp_zpl.specs.Items.Item.{Given, Data as Byte}
use Rattle.vp_format.specs.declared.field.Field.{Field}
use Rattle.vp_label_settings.specs.Formats.{is_open, acting, stored}
use Rattle.vp_label_settings.specs.Settings.{settings_of}
use Rattle.vp_label_settings.specs.Parts.{parts_of}
use Rattle.vp_label_settings.specs.declared.parts.OpenContent.{OpenContent}
use Rattle.vp_label_settings.specs.declared.parts.OpenContent.TheVariants.{Data, Frame, Ring, Diagonal, Picture}
use Rattle.vp_label_settings.specs.declared.parts.FieldParts.{FieldParts}
use Rattle.vp_closing.specs.Closing.{closed as closed_by}
use Rattle.vp_closing.specs.Contents.{stored_with}

-- a content whose data stand behind what closing other fields made
abbrev pub behind_made : ℕ → OpenContent → OpenContent
behind_made made (Data start) = Data (made + start)
behind_made made (Picture head start) = Picture head (made + start)
behind_made made (Frame b colour) = Frame b colour
behind_made made (Ring r colour) = Ring r colour
behind_made made (Diagonal d colour) = Diagonal d colour

abbrev pub parts_behind : ℕ → FieldParts → FieldParts
parts_behind made p = record {
  origin = p.origin;
  font = p.font;
  symbol = p.symbol;
  is_reversed = p.is_reversed;
  block = p.block;
  content = option_map (behind_made made) p.content;
}

-- the parts of the open field, whose data stand among these bytes: all that aren't data were made before
abbrev pub parts_among : List Item → List ℕ → FieldParts
parts_among before bytes = parts_behind (length bytes - length (stored before)) (parts_of before)

-- what a command leaves of the bytes of a format: ^FS stores what closing the field makes behind them
abbrev pub bytes_by : List ℕ → Command → List ℕ → List ℕ
bytes_by closed FieldSeparator bytes = closed
bytes_by closed FormatEnd bytes = []
bytes_by closed _ bytes = bytes

-- all bytes that are stored for the open format: the data of its fields, and what closing these made
abbrev pub all_stored : List Item → List ℕ
all_stored [] = []
all_stored (Given command name sent ∷ before) =
    if is_open before
    then bytes_by (stored_with (all_stored before) (parts_among before (all_stored before))) command
    (all_stored before)
    else all_stored before
all_stored (Byte byte ∷ before) =
    if is_open before then all_stored before ++ byte ∷ [] else all_stored before

-- the same once the last field is closed
abbrev pub printed_bytes : List Item → List ℕ
printed_bytes before = stored_with (all_stored before) (parts_among before (all_stored before))

abbrev pub with_kept : List Field → Option (Result Field Fault) → List Field
with_kept fields None = fields
with_kept fields (Some (Err fault)) = fields
with_kept fields (Some (Ok field)) = fields ++ field ∷ []

-- the fields behind a command, which may close one
abbrev pub entries_by : Option (Result Field Fault) → Command → List Field → List Field
entries_by closed FieldSeparator fields = with_kept fields closed
entries_by closed FormatEnd fields = []
entries_by closed _ fields = fields

-- the field that ^FS or ^XZ closes behind these fields, if there is one: as it is kept, or why it is refused
abbrev pub closed_behind : Sheets → List Item → List Field → Option (Result Field Fault)
closed_behind sheets before fields =
    closed_by sheets (record { fields = fields; stored = all_stored before }) (settings_of before)
    (parts_among before (all_stored before))

-- the fields of the open format, in the order of closing
abbrev pub entries : Sheets → List Item → List Field
entries sheets [] = []
entries sheets (item ∷ before) =
    acting (entries_by (closed_behind sheets before (entries sheets before))) (is_open before) item
    (entries sheets before)

-- the field that is closed behind all of them
abbrev pub closed : Sheets → List Item → Option (Result Field Fault)
closed sheets before = closed_behind sheets before (entries sheets before)

-- the fields of the image that ^XZ prints, which closes the last one
abbrev pub printed_entries : Sheets → List Item → List Field
printed_entries sheets before = with_kept (entries sheets before) (closed sheets before)
