-- Entries that stand for the fields of a format.
use Rattle.std.proofs.Common.{◌≡◌, ℕ, ◌<◌, ◌≤◌, List, length, get_or, sym, true, false, ◌∙◌, arith, Option, Some}
use Rattle.std.specs.Prelude.{slice_get}
use Rattle.std.proofs.lemmas.Option.{get_or_from_slice_get}
use Rattle.vp_glyph.specs.Sheets.{Sheets}
use Rattle.vp_format.specs.Formats.{Held}
use Rattle.vp_format.specs.declared.field.Field.{Field}
use Rattle.vp_field.specs.declared.view.View.{View}
use Rattle.vp_fields_by_band.specs.declared.table.Entry.{Entry}
use Rattle.vp_fields_by_band.specs.Threads.{entry_at, meets_at, IsNext, IsTable, KeepsSpans, ThreadedFrom}
use Rattle.vp_bands.specs.Meeting.{field_meets}
use Rattle.vp_bands.specs.Standing.{AreSpanned, IsSpanned}
use Rattle.vp_bands.proofs.Painted.{NoneOf}

-- the entries of the first n fields are set
abbrev pub AreSet : Sheets → Held → View → List Entry → ℕ → Type 0
AreSet sheets held view entries n =
    (k : ℕ) (f : Field) → k < n → IsSpanned sheets held.stored view (get_or held.fields k f) (entry_at entries k)

-- threading keeps the bands of each
pub spans_kept : (sheets : Sheets) (held : Held) (view : View) (old new : List Entry) → length new ≡ length old → KeepsSpans old new → AreSpanned sheets held view old → AreSpanned sheets held view new
spans_kept sheets held view old new len same spanned = grind arith

pub table_of : (entries : List Entry) (heads : List (Option ℕ)) → ThreadedFrom entries heads 0 → IsTable entries
table_of entries heads threaded = record { begins = λ b k lt now. threaded.rest b k (omega arith) lt now }

-- field n, f, is the next one from `seen` on that meets band b
pub record IsNextField (sheets : Sheets) (held : Held) (view : View) (b seen n : ℕ) (f : Field) : Type 0 where
  pub from : seen ≤ n
  pub within : n < length held.fields
  pub is : get_or held.fields n f ≡ f
  pub none : NoneOf (field_meets sheets held.stored view b) held.fields seen n
  pub meets : field_meets sheets held.stored view b f ≡ true

-- none of them meets the band, where none of their entries does
pub none_met : (sheets : Sheets) (held : Held) (view : View) (entries : List Entry) (b from to : ℕ) → AreSpanned sheets held view entries → to ≤ length entries
    → ((k : ℕ) → from ≤ k → k < to → meets_at entries b k ≡ false) → NoneOf (field_meets sheets held.stored view b) held.fields from to
none_met sheets held view entries b from to spanned within none k f ge lt = sym (spanned.bands k f (omega (arith, spanned.each)) b) ∙ none k ge lt

pub next_field : (sheets : Sheets) (held : Held) (view : View) (entries : List Entry) (b seen n : ℕ) (f : Field) → AreSpanned sheets held view entries
    → IsNext (meets_at entries b) seen (length entries) (Some n) → slice_get held.fields n ≡ Some f → IsNextField sheets held view b seen n f
next_field sheets held view entries b seen n f spanned next read = grind (arith, get_or_from_slice_get)
