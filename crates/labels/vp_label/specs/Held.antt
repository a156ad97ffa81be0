-- What is held of labels while bytes are pending, by the items, of which the newest comes first.
use Rattle.std.specs.Prelude.{ℕ, ◌-◌, ◌/◌, ◌%◌, nat_lt, List, [], ◌∷◌, length, if◌then◌else◌}
use Rattle.vp_dots.specs.Headers.{header_of}
use Rattle.vp_dots.specs.Images.{Image, row_bytes, pbm}
use Rattle.vp_glyph.specs.Sheets.{Sheets}
use Rattle.vp_zpl.specs.Items.{Item}
use Rattle.vp_output.specs.declared.place.Line.TheVariants.{Row}
use Rattle.vp_copies.specs.Copies.{band_rows}
use Rattle.vp_label.specs.Entries.{all_stored, entries, printed_bytes, printed_entries}
use Rattle.vp_label.specs.Prints.{image, prints}

-- the rows of the band in which the n-th byte of a copy lies, counted from 0: none in the header
abbrev pub rows_at : Image → ℕ → ℕ
rows_at i n =
    if nat_lt n (length (header_of i.width i.height)) then 0
    else band_rows i.height (Row ((n - length (header_of i.width i.height)) / row_bytes i.width))

-- those of the band of which the next byte is put out: what is pending is the end of what the newest item
-- prints
abbrev pub band_rows_after : Sheets → List Item → List ℕ → ℕ
band_rows_after sheets [] pending = 0
band_rows_after sheets (item ∷ before) pending =
    if nat_lt 0 (length pending)
    then rows_at (image sheets before)
    ((length (prints sheets before item) - length pending) % length (pbm (image sheets before)))
    else 0

-- the stored bytes of the format of which bytes are pending, else of the open one
abbrev pub stored_after : List Item → List ℕ → ℕ
stored_after [] pending = 0
stored_after (item ∷ before) pending =
    if nat_lt 0 (length pending) then length (printed_bytes before) else length (all_stored (item ∷ before))

-- its fields
abbrev pub fields_after : Sheets → List Item → List ℕ → ℕ
fields_after sheets [] pending = 0
fields_after sheets (item ∷ before) pending =
    if nat_lt 0 (length pending) then length (printed_entries sheets before)
    else length (entries sheets (item ∷ before))
