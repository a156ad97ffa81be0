-- What painting takes, by the items, of which the newest comes first.
use Rattle.std.specs.Prelude.{ℕ, nat_lt, List, [], ◌∷◌, length, if◌then◌else◌}
use Rattle.vp_glyph.specs.Sheets.{Sheets}
use Rattle.vp_zpl.specs.Items.{Item}
use Rattle.vp_label_settings.specs.Settings.{settings_of}
use Rattle.vp_bands.specs.Meeting.{bands_of, copy_work, shown_pairs}
use Rattle.vp_label.specs.Entries.{printed_bytes, printed_entries}
use Rattle.vp_label.specs.Prints.{prints, view_of}

-- a copy of the label that ^XZ prints takes at most the sum over the pairs of a field and a band that it
-- meets
abbrev pub label_work : Sheets → List Item → ℕ
label_work sheets before =
    let view = view_of (settings_of before) in
    copy_work sheets (printed_bytes before) view (printed_entries sheets before) (bands_of view)

-- and at least one for each pair of a field and a band where it has ink on a dot of the label
abbrev pub label_shown : Sheets → List Item → ℕ
label_shown sheets before =
    let view = view_of (settings_of before) in
    shown_pairs sheets (printed_bytes before) view (printed_entries sheets before) (bands_of view)

-- a number of the label that was printed last, by the items before its ^XZ: 0 before the first label
abbrev pub of_last : (Sheets → List Item → ℕ) → Sheets → List Item → ℕ
of_last number sheets [] = 0
of_last number sheets (item ∷ before) =
    if nat_lt 0 (length (prints sheets before item)) then number sheets before
    else of_last number sheets before

-- what painting a copy of that label takes at most, and at least
abbrev pub most_work : Sheets → List Item → ℕ
most_work = of_last label_work

abbrev pub least_work : Sheets → List Item → ℕ
least_work = of_last label_shown
