-- What is kept of the fields of a label while it is put out.
use Rattle.std.specs.Prelude.{◌≡◌, ℕ, ◌+◌, ◌-◌, ◌*◌, ◌^◌, ◌<◌, ◌≤◌, true, List, filter, length, Option, slice_index_or}
use Rattle.std.specs.List.{All}
use Rattle.vp_glyph.specs.Sheets.{Sheets}
use Rattle.vp_format.specs.declared.field.Field.{Field}
use Rattle.vp_format.specs.Formats.{Held}
use Rattle.vp_fields_by_band.specs.declared.table.Entry.{Entry}
use Rattle.vp_fields_by_band.specs.Held.{table_memory}
use Rattle.vp_fields_by_band.specs.Threads.{entry_at, link_at, meets, begins_at, carried_at, IsNext, IsTable, IsThreaded}
use Rattle.vp_field.specs.declared.marks.Marks.{Marks}
use Rattle.vp_field.specs.declared.view.View.{View}
use Rattle.vp_field.specs.Fields.{IsKept, AreMarksOf}
use Rattle.vp_bands.specs.Meeting.{field_meets, field_shows, pairs, copy_work, shown_pairs}
use Rattle.vp_bands.specs.declared.meeting.TheConstants.{BANDS}
use Rattle.vp_bands.specs.Kept.{marks_at, marks_memory}
use Rattle.vp_bands.specs.declared.painter.BandPainter.TheInside.{Inside}

-- the entries of the fields, in the order of closing; the first that begins in each band; of each entry that
-- is carried over the next such one; what earlier bands left of each field; the first entry that is carried
-- to the next band; how often an entry or a link was read so far, how often it had been at the copy's start,
-- and how often a field's marks were lent; what painting took since that start
pub record Threaded : Type 0 where
  pub entries : List Entry
  pub heads : List (Option ℕ)
  pub links : List (Option ℕ)
  pub marks : List Marks
  pub carried : Option ℕ
  pub looks : ℕ
  pub begun : ℕ
  pub marked : ℕ
  pub work : ℕ

abbrev pub threaded_by : {A : Type 0} → Inside A → Threaded
threaded_by p =
    record {
      entries = p.threads.entries;
      heads = p.threads.heads;
      links = p.threads.links;
      marks = p.marks.items;
      carried = p.carried;
      looks = p.threads.looks;
      begun = p.threads.begun;
      marked = p.marks.read;
      work = p.work;
    }

-- the looks since the copy's start
abbrev pub looks_since : Threaded → ℕ
looks_since t = t.looks - t.begun

-- there is room for 1,024 fields and 250 bands, and each field has marks
pub record HasRoom {A : Type 0} (p : Inside A) : Type 0 where
  pub entries : length p.threads.entries ≤ 1024
  pub heads : length p.threads.heads ≡ 250
  pub links : length p.threads.links ≡ 1024
  pub marks : length p.threads.entries ≤ length p.marks.items

-- the bytes of memory of a painter
abbrev pub painter_memory : ℕ
painter_memory = table_memory BANDS + marks_memory

-- the fields that meet band b
abbrev pub met : Sheets → List ℕ → View → ℕ → List Field → List Field
met sheets stored view b fields = filter (field_meets sheets stored view b) fields

-- those that have ink on a dot of the label in band b
abbrev pub seen_of : Sheets → List ℕ → View → ℕ → List Field → List Field
seen_of sheets stored view b fields = filter (field_shows sheets stored view b) fields

-- from an entry's first band to its last are the bands that a field meets
abbrev pub IsSpanned : Sheets → List ℕ → View → Field → Entry → Type 0
IsSpanned sheets stored view f e = (b : ℕ) → meets b e ≡ field_meets sheets stored view b f

-- the fields have an entry each, of the bands that they meet
pub record AreSpanned (sheets : Sheets) (held : Held) (view : View) (entries : List Entry) : Type 0 where
  pub each : length entries ≡ length held.fields
  pub bands : (k : ℕ) (f : Field) → k < length held.fields →
      IsSpanned sheets held.stored view (slice_index_or held.fields k f) (entry_at entries k)

-- what is left of the fields from one to another that are carried to band b is of what they show
abbrev pub AreMarked : Held → List Entry → List Marks → ℕ → ℕ → ℕ → Type 0
AreMarked held entries marks b from to =
    (k : ℕ) (f : Field) → from ≤ k → k < to → carried_at entries b k ≡ true
    → AreMarksOf held.stored (slice_index_or held.fields k f).content (marks_at marks k)

-- the fields of the format are threaded by the bands that they meet, each band's from its head
pub record IsThreadedFor (sheets : Sheets) (held : Held) (view : View) (entries : List Entry)
    (heads : List (Option ℕ)) : Type 0 where
  pub kept : All (IsKept held.stored) held.fields
  pub spanned : AreSpanned sheets held view entries
  pub table : IsTable entries
  pub begins : (b : ℕ) → IsNext (begins_at entries b) 0 (length entries) (link_at heads b)

-- band b of a copy of what a format holds is the next one: the fields that reach on from the bands before
-- are threaded, and each of these bands took at most one look, and each pair of one and a field that meets it
-- one or two, and at most the work of its field, and something where the field has ink there
pub record IsBefore (sheets : Sheets) (held : Held) (view : View) (b : ℕ) (t : Threaded) : Type 0 where
  pub label : IsThreadedFor sheets held view t.entries t.heads
  pub carried : IsThreaded t.entries t.links b t.carried
  pub marks : AreMarked held t.entries t.marks b 0 (length t.entries)
  pub at_least : t.begun + pairs sheets held.stored view held.fields b ≤ t.looks
  pub at_most : t.looks ≤ t.begun + b + 2 * pairs sheets held.stored view held.fields b
  pub work : t.work ≤ copy_work sheets held.stored view held.fields b
  pub shown : shown_pairs sheets held.stored view held.fields b ≤ t.work
  pub countable : t.work ≤ 2 ^ 37 * b
