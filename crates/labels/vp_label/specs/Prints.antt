-- What is printed.
use Rattle.std.specs.Prelude.{ℕ, Bool, not, List, [], ◌∷◌, ◌++◌, map, if◌then◌else◌}
use Rattle.vp_dots.specs.Images.{Image}
use Rattle.vp_glyph.specs.Sheets.{Sheets}
use Rattle.vp_zpl.specs.declared.item.Command.{Command}
use Rattle.vp_zpl.specs.declared.item.Command.TheVariants.{FormatEnd}
use Rattle.vp_zpl.specs.Items.{Item}
use Rattle.vp_zpl.specs.Items.Item.{Given, Data}
use Rattle.vp_format.specs.declared.field.Field.{Field}
use Rattle.vp_field.specs.declared.view.View.{View}
use Rattle.vp_field.specs.Strokes.{image_dot}
use Rattle.vp_field.specs.Fields.{stroke_of}
use Rattle.vp_label_settings.specs.declared.settings.Settings.{Settings}
use Rattle.vp_label_settings.specs.Formats.{is_open}
use Rattle.vp_label_settings.specs.Settings.{settings_of, quantity}
use Rattle.vp_copies.specs.Copies.{copies_text}
use Rattle.vp_label.specs.Entries.{printed_bytes, printed_entries}

-- how a label is put out: ^PW, ^LL, ^PO and ^PM
abbrev pub view_of : Settings → View
view_of s = record {
  width = s.print_width;
  height = s.label_length;
  inverted = s.is_inverted;
  mirrored = s.is_mirrored;
}

-- the image of a label with these fields, which show stored bytes
abbrev pub label_image : Sheets → View → List ℕ → List Field → Image
label_image sheets view bytes fields = record {
  width = view.width;
  height = view.height;
  is_black = image_dot view (map (stroke_of sheets bytes) fields);
}

-- that of the format that ^XZ ends
abbrev pub image : Sheets → List Item → Image
image sheets before =
    label_image sheets (view_of (settings_of before)) (printed_bytes before) (printed_entries sheets before)

-- a format without fields prints nothing
abbrev pub unless_empty : List Field → List ℕ → List ℕ
unless_empty [] text = []
unless_empty (field ∷ fields) text = text

-- ^XZ prints the image as often as ^PQ says
abbrev pub format_text : Sheets → List Item → List ℕ
format_text sheets before =
    unless_empty (printed_entries sheets before) (copies_text (image sheets before) (quantity before))

abbrev pub prints_by : Sheets → List Item → Command → List ℕ
prints_by sheets before FormatEnd = format_text sheets before
prints_by sheets before _ = []

-- what an item prints
abbrev pub prints : Sheets → List Item → Item → List ℕ
prints sheets before (Given command name sent) =
    if is_open before then prints_by sheets before command else []
prints sheets before (Data byte) = []

-- what these print, one after the other
abbrev pub all_print : Sheets → List Item → List Item → List ℕ
all_print sheets before [] = []
all_print sheets before (item ∷ more) = prints sheets before item ++ all_print sheets (item ∷ before) more

-- what all items have printed, of which the newest comes first
abbrev pub printed : Sheets → List Item → List ℕ
printed sheets [] = []
printed sheets (item ∷ before) = printed sheets before ++ prints sheets before item

-- at rest: no format is open
abbrev pub is_at_rest : List Item → Bool
is_at_rest before = not (is_open before)
