-- The marks of the entries that are carried from band to band.
use Rattle.std.proofs.Common.{◌≡◌, ℕ, ◌+◌, ◌<◌, ◌≤◌, true, false, nat_le, List, length, set, get_or, None, Some, arith, inl, inr, get_or-set_same, get_or-set_other}
use Rattle.std.proofs.lemmas.Bool.{cases_eq, cases_lt}
use Rattle.std.proofs.lemmas.Bool.Decides.{nat_tests}
use Rattle.vp_format.specs.Formats.{Held}
use Rattle.vp_format.specs.declared.field.Field.{Field}
use Rattle.vp_field.specs.declared.marks.Marks.{Marks}
use Rattle.vp_field.specs.Fields.{no_marks, AreMarksOf}
use Rattle.vp_fields_by_band.specs.declared.table.Entry.{Entry}
use Rattle.vp_fields_by_band.specs.Threads.{meets, meets_at, is_carried, IsNext}
use Rattle.vp_fields_by_band.proofs.Next.{gap_kept}
use Rattle.vp_bands.specs.Standing.{AreMarked}

-- a field that meets the band and began before is carried to it
pub carried_here : (e : Entry) (b : ℕ) → meets b e ≡ true → nat_le b e.first ≡ false → is_carried b e ≡ true
carried_here e b h lt = grind (arith, nat_tests)

-- the marks of those ahead stay
pub marked_ahead : (held : Held) (entries : List Entry) (marks : List Marks) (b seen n : ℕ) (new : Marks) → seen ≤ n
    → AreMarked held entries marks b seen (length entries) → AreMarked held entries (set marks n new) b (n + 1) (length entries)
marked_ahead held entries marks b seen n new le marked k f ge lt now = rw (get_or-set_other marks n k new no_marks (omega arith)) (marked k f (omega arith) lt now)

-- the next entry has its new mark, and those before it have theirs
pub marked_behind : (held : Held) (entries : List Entry) (marks : List Marks) (b seen n : ℕ) (new : Marks) → n < length marks
    → IsNext (meets_at entries b) seen (length entries) (Some n) → ((f : Field) → AreMarksOf held.stored (get_or held.fields n f).content new)
    → AreMarked held entries marks (b + 1) 0 seen → AreMarked held entries (set marks n new) (b + 1) 0 (n + 1)
marked_behind held entries marks b seen n new within next here marked k f ge lt now = elim (cases_eq k n) [
  | inl at ↦ rw (at, get_or-set_same marks n new no_marks within) (here f)
  | inr other ↦ rw (get_or-set_other marks n k new no_marks other) (elim (cases_lt k seen) [
    | inl before ↦ marked k f ge before now
    | inr past ↦ grind (arith, gap_kept entries b seen n next.3 k past)
  ])
]

-- no other entry is carried on
pub marked_all : (held : Held) (entries : List Entry) (marks : List Marks) (b seen : ℕ) → IsNext (meets_at entries b) seen (length entries) None
    → AreMarked held entries marks (b + 1) 0 seen → AreMarked held entries marks (b + 1) 0 (length entries)
marked_all held entries marks b seen none marked k f ge lt now = elim (cases_lt k seen) [
  | inl before ↦ marked k f ge before now
  | inr past ↦ grind (arith, gap_kept entries b seen (length entries) none k past)
]
