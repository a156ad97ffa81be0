-- What a format holds, and how often a field of it was read.
use Rattle.std.specs.Prelude.{◌≡◌, ℕ, ◌+◌, ◌*◌, ◌≤◌, List, length, vec_capacity}
use Rattle.vp_format.specs.declared.field.Field.{Field}
use Rattle.vp_format.specs.declared.format.TheConstants.{FIELDS, FIELD_BYTES, STORED}
use Rattle.vp_format.specs.declared.format.Fields.TheInside.{Inside}

-- the closed fields, in their order, and how many were read so far
pub record Closed : Type 0 where
  pub items : List Field
  pub read : ℕ

abbrev pub closed_by : {A : Type 0} → Inside A → Closed
closed_by f = record { items = f.items.items; read = f.reads.so_far }

-- there is room for 1,024 fields
pub record HasRoom {A : Type 0} (f : Inside A) : Type 0 where
  pub filled : length f.items.items ≤ 1024
  pub room : vec_capacity f.items ≡ 1024

-- what a format holds: the closed fields and the stored bytes, each in their order
pub record Held : Type 0 where
  pub fields : List Field
  pub stored : List ℕ

abbrev pub held : Closed → List ℕ → Held
held fields stored = record { fields = fields.items; stored = stored }

-- the bytes of memory of the fields, and of a format
abbrev pub fields_memory : ℕ
fields_memory = FIELD_BYTES * FIELDS

abbrev pub format_memory : ℕ
format_memory = fields_memory + STORED
