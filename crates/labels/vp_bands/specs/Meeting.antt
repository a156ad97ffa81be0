-- Which bands of a label a field meets, and how many do.
use Rattle.std.specs.Prelude.{ℕ, ◌+◌, ◌-◌, ◌*◌, ◌/◌, ℤ, pos, ◌+ℤ◌, int_le, int_lt, nat_lt, Bool, ◌&&◌, List, count_by, filter, sum_by}
use Rattle.std.specs.List.{list_any, range_with_len}
use Rattle.vp_glyph.specs.Sheets.{Sheets}
use Rattle.vp_format.specs.declared.field.Field.{Field}
use Rattle.vp_field.specs.Fields.{field_ink, box_rows}
use Rattle.vp_field.specs.Contents.{most_work}
use Rattle.vp_field.specs.declared.view.View.{View}
use Rattle.vp_field.specs.Views.{seen_x, seen_y}
use Rattle.vp_label_size.specs.declared.TheConstants.{BAND_ROWS}

-- place p is one of the n places from a place on
abbrev pub is_among : ℤ → ℕ → ℤ → Bool
is_among from n p = int_le from p && int_lt p (from +ℤ pos n)

-- row y of the label as it is put out shows one of `rows` rows of the label from row `top` on
abbrev pub shows_row : View → ℤ → ℕ → ℕ → Bool
shows_row view top rows y = nat_lt y view.height && is_among top rows (seen_y view (pos y))

-- the rows of band b
abbrev pub band_rows : ℕ → List ℕ
band_rows b = range_with_len (BAND_ROWS * b) BAND_ROWS

-- a row of band b shows one of them
unfoldable pub box_meets : View → ℤ → ℕ → ℕ → Bool
box_meets view top rows b = list_any (shows_row view top rows) (band_rows b)

-- the box of the field has a row in band b
unfoldable pub field_meets : Sheets → List ℕ → View → ℕ → Field → Bool
field_meets sheets stored view b f = box_meets view f.top (box_rows sheets stored f) b

-- how many of the fields meet band b
abbrev pub meeting : Sheets → List ℕ → View → List Field → ℕ → ℕ
meeting sheets stored view fields b = count_by (field_meets sheets stored view b) fields

-- how many pairs of a field and one of the first n bands there are where the field meets the band
unfoldable pub pairs : Sheets → List ℕ → View → List Field → ℕ → ℕ
pairs sheets stored view fields n = sum_by (meeting sheets stored view fields) (range_with_len 0 n)

-- how many looks the first n bands take at most
abbrev pub most_looks : Sheets → List ℕ → View → List Field → ℕ → ℕ
most_looks sheets stored view fields n = n + 2 * pairs sheets stored view fields n

-- what painting the fields that meet band b takes at most
abbrev pub band_work : Sheets → List ℕ → View → List Field → ℕ → ℕ
band_work sheets stored view fields b =
    sum_by (λ f. most_work f.orientation f.content) (filter (field_meets sheets stored view b) fields)

-- and in the first n bands: the sum over the pairs of a field and one of these bands that the field meets
unfoldable pub copy_work : Sheets → List ℕ → View → List Field → ℕ → ℕ
copy_work sheets stored view fields n = sum_by (band_work sheets stored view fields) (range_with_len 0 n)

-- the field has ink on a dot of the label in band b
unfoldable pub field_shows : Sheets → List ℕ → View → ℕ → Field → Bool
field_shows sheets stored view b f =
    list_any (λ y. nat_lt y view.height
    && list_any (λ x. field_ink sheets stored f (seen_x view (pos x)) (seen_y view (pos y)))
    (range_with_len 0 view.width)) (band_rows b)

-- how many of the fields have
abbrev pub showing : Sheets → List ℕ → View → List Field → ℕ → ℕ
showing sheets stored view fields b = count_by (field_shows sheets stored view b) fields

-- how many pairs of a field and one of the first n bands there are where the field has ink on a dot of the
-- label in the band
unfoldable pub shown_pairs : Sheets → List ℕ → View → List Field → ℕ → ℕ
shown_pairs sheets stored view fields n =
    sum_by (showing sheets stored view fields) (range_with_len 0 n)

-- how many bands a label has
abbrev pub bands_of : View → ℕ
bands_of view = (view.height + (BAND_ROWS - 1)) / BAND_ROWS
