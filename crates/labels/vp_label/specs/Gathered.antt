-- What is gathered of the format that is open.
use Rattle.std.specs.Prelude.{◌≡◌, ◌≤◌, ◌+◌, ◌-◌, ℕ, true, List, length, if◌then◌else◌}
use Rattle.std.specs.List.{All}
use Rattle.vp_glyph.specs.Sheets.{Sheets}
use Rattle.vp_zpl.specs.Items.{Item}
use Rattle.vp_format.specs.declared.field.Field.{Field}
use Rattle.vp_format.specs.Formats.{held, Held}
use Rattle.vp_format.specs.declared.format.TheConstants.{STORED}
use Rattle.vp_field.specs.Fields.{IsKept}
use Rattle.vp_label_settings.specs.Formats.{is_open, stored}
use Rattle.vp_label_settings.specs.Laws.{AreParts}
use Rattle.vp_label_settings.specs.Settings.{settings_of}
use Rattle.vp_label_settings.specs.Standing.{StandsAfter}
use Rattle.vp_label.specs.declared.gathered.Gathered.{Gathered}
use Rattle.vp_copies.specs.Copies.{copies_text}
use Rattle.vp_label.specs.Entries.{all_stored, entries, printed_bytes, printed_entries}
use Rattle.vp_label.specs.Prints.{label_image, view_of}

-- fields that can be painted from stored bytes
abbrev pub AreKept : List ℕ → List Field → Type 0
AreKept bytes fields = All (IsKept bytes) fields

-- the fields and stored bytes of the open format
pub record Holds (sheets : Sheets) (before : List Item) (held : Held) : Type 0 where
  pub fields : held.fields ≡ entries sheets before
  pub stored : held.stored ≡ all_stored before
  pub kept : AreKept held.stored held.fields
  pub few : length held.stored ≤ STORED

-- what the format holds
abbrev pub held_of : {A : Type 0} → Gathered A → Held
held_of g = held g.format.fields g.format.stored

-- the parts of the open field are in their ranges among the data, which are all bytes but those that closing
-- fields made
pub record AreBehind {A : Type 0} (g : Gathered A) : Type 0 where
  pub less : g.made ≤ length g.format.stored
  pub parts : AreParts (length g.format.stored - g.made) g.in_force.parts

-- what is gathered after these items
pub record Gathers {A : Type 0} (sheets : Sheets) (g : Gathered A) (before : List Item) : Type 0 where
  pub in_force : StandsAfter g.in_force before
  pub held : is_open before ≡ true → Holds sheets before (held_of g)
  pub made : is_open before ≡ true → g.made + length (stored before) ≡ length (all_stored before)

-- it is what ^XZ printed, after these items
pub record IsPrinted {A : Type 0} (sheets : Sheets) (g : Gathered A) (before : List Item) : Type 0 where
  pub view : view_of g.in_force.settings ≡ view_of (settings_of before)
  pub stored : g.format.stored ≡ printed_bytes before
  pub fields : g.format.fields.items ≡ printed_entries sheets before

-- it is gathered after some items
abbrev pub IsGathered : {A : Type 0} → Sheets → Gathered A → Type 0
IsGathered sheets g = (before : List Item) × Gathers sheets g before

-- how many bytes of data there is room for: what is left of the store, and all of it outside a format, where
-- data aren't stored
abbrev pub data_room : {A : Type 0} → Gathered A → ℕ
data_room g = if g.in_force.is_open then STORED - length g.format.stored else STORED

-- `copies` copies of an image with the fields of the format that has ended
abbrev pub to_print : {A : Type 0} → Sheets → Gathered A → ℕ → List ℕ
to_print sheets g copies =
    copies_text (label_image sheets (view_of g.in_force.settings) g.format.stored g.format.fields.items)
    copies
