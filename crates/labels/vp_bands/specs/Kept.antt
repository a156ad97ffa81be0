-- What earlier bands left of the fields.
use Rattle.std.specs.Prelude.{◌≡◌, ℕ, ◌+◌, ◌*◌, ◌≤◌, List, length, vec_capacity, slice_index_or, slice_set}
use Rattle.vp_format.specs.declared.format.TheConstants.{FIELDS}
use Rattle.vp_field.specs.declared.marks.Marks.{Marks}
use Rattle.vp_field.specs.Fields.{no_marks}
use Rattle.vp_bands.specs.declared.marks.TheConstants.{MARKS_BYTES}
use Rattle.vp_bands.specs.declared.marks.KeptMarks.TheInside.{Inside}

-- the marks of the fields, in the order of closing, and how often one's were lent so far
pub record Kept : Type 0 where
  pub items : List Marks
  pub read : ℕ

abbrev pub kept_by : {A : Type 0} → Inside A → Kept
kept_by m = record { items = m.items.items; read = m.reads.so_far }

-- there is room for those of 1,024 fields
pub record HasRoom {A : Type 0} (m : Inside A) : Type 0 where
  pub filled : length m.items.items ≤ 1024
  pub room : vec_capacity m.items ≡ 1024

abbrev pub marks_at : List Marks → ℕ → Marks
marks_at marks k = slice_index_or marks k no_marks

-- field n has other marks, and it was counted
abbrev pub with_marks : Kept → ℕ → Marks → Kept
with_marks kept n marks = record { items = slice_set kept.items n marks; read = kept.read + 1 }

-- the bytes of memory that they hold
abbrev pub marks_memory : ℕ
marks_memory = MARKS_BYTES * FIELDS
