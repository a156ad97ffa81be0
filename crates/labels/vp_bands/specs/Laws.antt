-- Which bands are met, and what a copy takes.
use Rattle.std.specs.Prelude.{◌≡◌, ◌↔◌, ◌<◌, ◌≤◌, ℕ, ◌+◌, ◌*◌, ◌/◌, ℤ, pos, ◌+ℤ◌, ◌≤ℤ◌, ◌<ℤ◌, true, false, List, sum_by}
use Rattle.vp_glyph.specs.Sheets.{Sheets}
use Rattle.vp_format.specs.declared.field.Content.{Content}
use Rattle.vp_format.specs.declared.field.Content.TheVariants.{Text, Block, Picture}
use Rattle.vp_format.specs.declared.field.Field.{Field}
use Rattle.vp_format.specs.declared.format.TheConstants.{STORED}
use Rattle.vp_format.specs.Formats.{Held}
use Rattle.vp_field.specs.Axes.{lines_of}
use Rattle.vp_field.specs.Contents.{most_work, orientation_of}
use Rattle.vp_field.specs.Fields.{IsKept}
use Rattle.vp_field.specs.declared.axis.Lines.TheVariants.{Along}
use Rattle.vp_field.specs.declared.view.View.{View}
use Rattle.vp_field.specs.Views.{seen_y}
use Rattle.vp_bands.specs.Meeting.{box_meets, pairs, copy_work, shown_pairs, bands_of}
use Rattle.vp_bands.specs.Standing.{looks_since, Threaded, IsBefore}
use Rattle.vp_label_size.specs.declared.TheConstants.{BAND_ROWS, WIDEST}
use Rattle.vp_zpl.specs.declared.item.Orientation.{Orientation}

-- a box meets band b exactly where a row of the band lies on the label and shows one of the box's; it meets
-- none behind the label's last band
pub record BandsMet : Type 0 where
  pub rows : (view : View) (top : ℤ) (rows b : ℕ) → (box_meets view top rows b ≡ true)
      ↔ ((y : ℕ) × (y / BAND_ROWS ≡ b) × (y < view.height) × (top ≤ℤ seen_y view (pos y))
      × (seen_y view (pos y) <ℤ (top +ℤ pos rows)))
  pub behind : (view : View) (top : ℤ) (rows b : ℕ) → bands_of view ≤ b → box_meets view top rows b ≡ false

-- at each band of a copy there were at most one look for each band of the label and two for each pair of a
-- field and a band that it meets, and behind the last band at least one for each pair
pub record LooksBounded : Type 0 where
  pub at_most : (sheets : Sheets) (held : Held) (view : View) (b : ℕ) (t : Threaded)
      → IsBefore sheets held view b t → b ≤ bands_of view
      → looks_since t ≤ bands_of view + 2 * pairs sheets held.stored view held.fields (bands_of view)
  pub at_least : (sheets : Sheets) (held : Held) (view : View) (t : Threaded)
      → IsBefore sheets held view (bands_of view) t
      → pairs sheets held.stored view held.fields (bands_of view) ≤ looks_since t

-- at each band of a copy painting took at most the work of the pairs of a field and a band that it meets, and
-- behind the last band at least one for each pair where the field has ink on a dot of the label in the band
pub record WorkBounded : Type 0 where
  pub at_most : (sheets : Sheets) (held : Held) (view : View) (b : ℕ) (t : Threaded)
      → IsBefore sheets held view b t → b ≤ bands_of view
      → t.work ≤ copy_work sheets held.stored view held.fields (bands_of view)
  pub at_least : (sheets : Sheets) (held : Held) (view : View) (t : Threaded)
      → IsBefore sheets held view (bands_of view) t
      → shown_pairs sheets held.stored view held.fields (bands_of view) ≤ t.work

-- the bytes of a picture's codes: other contents have none
abbrev pub code_bytes : Content → ℕ
code_bytes (Picture p) = p.codes.len
code_bytes _ = 0

-- the bytes of a text, which may stand in a block: other contents have none
abbrev pub text_bytes : Content → ℕ
text_bytes (Text t) = t.bytes.len
text_bytes (Block b) = b.text.bytes.len
text_bytes _ = 0

-- in a band a field takes at most 16,416, or 43,960 where its lines lie across the rows, and with that 262
-- times the bytes of its text and twice those of its codes, which are no more than a format has room for; so
-- a copy takes at most 43,960 for each pair of a field and a band that it meets, and in each band 262 times
-- the bytes of all texts and twice those of all codes
pub record CostsAtMost : Type 0 where
  pub along : (o : Orientation) (c : Content) → lines_of (orientation_of o c) ≡ Along
      → most_work o c ≤ BAND_ROWS * (1 + 512) + 262 * text_bytes c + 2 * code_bytes c
  pub field : (o : Orientation) (c : Content)
      → most_work o c ≤ (WIDEST + 8) * (1 + (BAND_ROWS + 2)) + 262 * text_bytes c + 2 * code_bytes c
  pub codes : (stored : List ℕ) (f : Field) → IsKept stored f → code_bytes f.content ≤ STORED
  pub texts : (stored : List ℕ) (f : Field) → IsKept stored f → text_bytes f.content ≤ STORED
  pub copy : (sheets : Sheets) (stored : List ℕ) (view : View) (fields : List Field) (n : ℕ)
      → copy_work sheets stored view fields n
      ≤ (WIDEST + 8) * (1 + (BAND_ROWS + 2)) * pairs sheets stored view fields n
      + 262 * (n * sum_by (λ f. text_bytes f.content) fields)
      + 2 * (n * sum_by (λ f. code_bytes f.content) fields)
