-- Which band of a copy is the next one.
use Rattle.std.proofs.Common.{◌≡◌, ℕ, ◌+◌, ◌*◌, ◌^◌, ◌≤◌, List, length, arith, refl, Option, None}
use Rattle.vp_glyph.specs.Sheets.{Sheets}
use Rattle.vp_format.specs.Formats.{Held}
use Rattle.vp_field.specs.declared.marks.Marks.{Marks}
use Rattle.vp_field.specs.declared.view.View.{View}
use Rattle.vp_fields_by_band.specs.Threads.{IsThreaded}
use Rattle.vp_bands.specs.Meeting.{band_work, meeting, showing}
use Rattle.vp_bands.specs.Standing.{Threaded, AreMarked, IsThreadedFor, IsBefore}
use Rattle.vp_bands.proofs.Painted.{no_pairs, pairs_more}
use Rattle.vp_bands.proofs.Work.{copy_more}
use Rattle.vp_bands.proofs.Seen.{none_shown, shown_more}

-- nothing of a copy is painted yet
pub begun : (sheets : Sheets) (held : Held) (view : View) (t : Threaded) → IsThreadedFor sheets held view t.entries t.heads → t.carried ≡ None → t.begun ≡ t.looks → t.work ≡ 0 → IsBefore sheets held view 0 t
begun sheets held view t label none unread idle = grind (arith, no_pairs, none_shown)

-- another copy of the label
pub started : (sheets : Sheets) (held : Held) (view : View) (b : ℕ) (t : Threaded) → IsBefore sheets held view b t → IsBefore sheets held view 0 (record t { carried = None; begun = t.looks; work = 0 })
started sheets held view b t before = begun sheets held view (record t { carried = None; begun = t.looks; work = 0 }) before.label refl refl refl

-- one more band of it is painted
pub painted_on : (sheets : Sheets) (held : Held) (view : View) (b : ℕ) (t : Threaded) (links : List (Option ℕ)) (marks : List Marks) (carried : Option ℕ) (looks marked work : ℕ) → IsBefore sheets held view b t
    → IsThreaded t.entries links (b + 1) carried → AreMarked held t.entries marks (b + 1) 0 (length t.entries)
    → t.looks + meeting sheets held.stored view held.fields b ≤ looks → looks ≤ t.looks + 1 + 2 * meeting sheets held.stored view held.fields b
    → work ≤ t.work + band_work sheets held.stored view held.fields b → t.work + showing sheets held.stored view held.fields b ≤ work → work ≤ t.work + 2 ^ 37
    → IsBefore sheets held view (b + 1) (record t { links = links; marks = marks; carried = carried; looks = looks; marked = marked; work = work })
painted_on sheets held view b t links marks carried looks marked work before threaded are_marked least most took shown few = grind (arith, pairs_more, copy_more, shown_more)
