-- What the bytes of a format bound: its fields, the codes of its pictures, and what a copy takes.
use Rattle.std.specs.Prelude.{◌≤◌, ℕ, ◌+◌, ◌*◌, List, [], ◌∷◌, length, reverse, sum_by, if◌then◌else◌}
use Rattle.vp_glyph.specs.Sheets.{Sheets}
use Rattle.vp_zpl.specs.declared.reading.Reading.{Reading}
use Rattle.vp_zpl.specs.Items.{Item, items, least_by}
use Rattle.vp_format.specs.declared.field.Field.{Field}
use Rattle.vp_label_settings.specs.Formats.{is_open}
use Rattle.vp_label_settings.specs.Settings.{settings_of}
use Rattle.vp_bands.specs.Laws.{code_bytes, text_bytes}
use Rattle.vp_bands.specs.Meeting.{bands_of}
use Rattle.vp_label.specs.Entries.{printed_entries}
use Rattle.vp_label.specs.Prints.{view_of}
use Rattle.vp_label.specs.Work.{label_work, most_work}

-- of how many bytes the items of the open format are at least, from its ^XA on
abbrev pub format_bytes : List Item → ℕ
format_bytes [] = 0
format_bytes (item ∷ before) = if is_open (item ∷ before) then least_by item + format_bytes before else 0

-- the bytes of the codes of these fields
abbrev pub all_codes : List Field → ℕ
all_codes fields = sum_by (λ f. code_bytes f.content) fields

-- those of their texts
abbrev pub all_texts : List Field → ℕ
all_texts fields = sum_by (λ f. text_bytes f.content) fields

-- these are no more bytes than were read. A field is of six of them or more, a command that says its content
-- and one that closes it, and its text or its codes are data. So a copy takes at most 7,327 for each of them
-- in each band: a sixth of the 43,960 of a field and a band, which is more than the 262 of a byte of a text.
-- A label has at most 250 bands.
pub record BytesCostAtMost : Type 0 where
  pub read : (reading : Reading) (bytes : List ℕ) →
      format_bytes (reverse (items reading bytes)) ≤ length bytes
  pub fields : (sheets : Sheets) (before : List Item) → 6 * length (printed_entries sheets before)
      + all_codes (printed_entries sheets before) + all_texts (printed_entries sheets before)
      ≤ format_bytes before
  pub copy : (sheets : Sheets) (before : List Item) → label_work sheets before
      ≤ 7327 * (bands_of (view_of (settings_of before)) * format_bytes before)
  pub last : (sheets : Sheets) (reading : Reading) (bytes : List ℕ) →
      most_work sheets (reverse (items reading bytes))
      ≤ 7327 * (250 * length bytes)
