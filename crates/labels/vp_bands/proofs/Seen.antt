-- The fields that have ink in a band.
use Rattle.std.proofs.Common.{◌≡◌, ℕ, ◌+◌, ◌-◌, ◌*◌, ◌<◌, ◌≤◌, true, ◌&&◌, nat_lt, List, length, take, get_or, refl, ap, arith, pos}
use Rattle.std.specs.List.{list_any, range_with_len}
use Rattle.std.proofs.lemmas.Bool.{and_parts, ltb-true}
use Rattle.std.proofs.lemmas.List.Filters.{length-filter_more}
use Rattle.vp_glyph.specs.Sheets.{Sheets}
use Rattle.vp_format.specs.declared.field.Field.{Field}
use Rattle.vp_field.specs.declared.view.View.{View}
use Rattle.vp_field.specs.Bands.{IsCounted}
use Rattle.vp_field.specs.Fields.{field_ink}
use Rattle.vp_field.specs.Views.{seen_x, seen_y}
use Rattle.vp_bands.specs.Meeting.{field_meets, field_shows, showing, shown_pairs}
use Rattle.vp_bands.specs.Standing.{seen_of}
use Rattle.vp_bands.proofs.Painted.{no_ink, passed_by, NoneOf, sum_more}
use Rattle.vp_bands.proofs.Spans.{any_row}

-- a dot of a field that has ink in band b
ink_dot : (sheets : Sheets) (stored : List ℕ) (view : View) (b : ℕ) (f : Field) → field_shows sheets stored view b f ≡ true
    → (y : ℕ) × (32 * b ≤ y) × (y < 32 * b + 32) × (y < view.height) × (x : ℕ) × (field_ink sheets stored f (seen_x view (pos x)) (seen_y view (pos y)) ≡ true)
unfolding field_shows
ink_dot sheets stored view b f shows =
    let row = any_row (λ y. nat_lt y view.height && list_any (λ x. field_ink sheets stored f (seen_x view (pos x)) (seen_y view (pos y))) (range_with_len 0 view.width)) (32 * b) 32 shows in
    let p = and_parts _ _ row.3 in
    let dot = any_row _ 0 view.width p.1 in
    (row.0, row.1, row.2, ltb-true _ _ p.0, dot.0, dot.3)

-- painting it took something
pub seen_took : (sheets : Sheets) (stored : List ℕ) (view : View) (b work : ℕ) (f : Field) → IsCounted (λ x k. field_ink sheets stored f (seen_x view (pos x)) (seen_y view (pos (32 * b + k)))) work
    → field_shows sheets stored view b f ≡ true → 0 < work
seen_took sheets stored view b work f counted shows =
    let d = ink_dot sheets stored view b f shows in
    let at : 32 * b + (d.0 - 32 * b) ≡ d.0 = omega (arith, d.1) in
    counted d.4 (d.0 - 32 * b) (omega (arith, d.1, d.2)) (rw at d.5)

-- where no field meets the band none has ink there
pub none_seen : (sheets : Sheets) (stored : List ℕ) (view : View) (b from to : ℕ) (fields : List Field) → NoneOf (field_meets sheets stored view b) fields from to → NoneOf (field_shows sheets stored view b) fields from to
none_seen sheets stored view b from to fields none k f ge lt = grind (arith, ink_dot, no_ink)

-- one more field that meets the band
pub seen_more : (sheets : Sheets) (stored : List ℕ) (view : View) (b seen n work : ℕ) (fields : List Field) (f : Field) → seen ≤ n → n < length fields → NoneOf (field_meets sheets stored view b) fields seen n → get_or fields n f ≡ f
    → (field_shows sheets stored view b f ≡ true → 0 < work)
    → length (seen_of sheets stored view b (take (n + 1) fields)) ≤ length (seen_of sheets stored view b (take seen fields)) + work
seen_more sheets stored view b seen n work fields f le lt none is took =
    let shows = field_shows sheets stored view b in
    let before = passed_by shows fields seen n le (omega arith) (none_seen sheets stored view b seen n fields none) in
    grind (arith, ap length before, length-filter_more shows fields n f lt)

-- those of one more band
pub shown_more : (sheets : Sheets) (stored : List ℕ) (view : View) (fields : List Field) (n : ℕ) → shown_pairs sheets stored view fields (n + 1) ≡ shown_pairs sheets stored view fields n + showing sheets stored view fields n
unfolding shown_pairs
shown_more sheets stored view fields n = sum_more (showing sheets stored view fields) n

pub none_shown : (sheets : Sheets) (stored : List ℕ) (view : View) (fields : List Field) → shown_pairs sheets stored view fields 0 ≡ 0
unfolding shown_pairs
none_shown sheets stored view fields = refl
