-- What is held of the fields of a label, and how often it was read.
use Rattle.std.specs.Prelude.{◌≡◌, ℕ, ◌+◌, ◌-◌, ◌*◌, ◌%◌, ◌^◌, ◌≤◌, List, length, vec_capacity, Option}
use Rattle.vp_format.specs.declared.format.TheConstants.{FIELDS}
use Rattle.vp_fields_by_band.specs.declared.table.Entry.{Entry}
use Rattle.vp_fields_by_band.specs.declared.table.TheConstants.{ENTRY_BYTES, LINK_BYTES}
use Rattle.vp_fields_by_band.specs.declared.table.Threads.TheInside.{Inside}

-- the entries of the fields, in the order of closing; the first that begins in each band; of each entry that
-- is carried over the next such one; how often an entry, the first of a band or a link was read so far, and
-- how often it had been at the copy's start
pub record Table : Type 0 where
  pub entries : List Entry
  pub heads : List (Option ℕ)
  pub links : List (Option ℕ)
  pub looks : ℕ
  pub begun : ℕ

abbrev pub table_by : {A : Type 0} → Inside A → Table
table_by t =
    record {
      entries = t.entries.items;
      heads = t.heads.items;
      links = t.links.items;
      looks = t.looks.so_far;
      begun = t.looks.begun;
    }

-- there is room for 1,024 entries and their links, and for the first of each band; what is told is how many
-- looks there were since the copy's start
pub record HasRoom {A : Type 0} (t : Inside A) : Type 0 where
  pub entries : length t.entries.items ≤ 1024
  pub links : length t.links.items ≡ 1024
  pub room : vec_capacity t.entries ≡ 1024
  pub links_room : vec_capacity t.links ≡ 1024
  pub heads_room : vec_capacity t.heads ≡ length t.heads.items
  pub before : t.looks.begun ≤ t.looks.so_far
  pub told : t.since ≡ (t.looks.so_far - t.looks.begun) % 2 ^ 64

-- the bytes of memory of a table of so many bands
abbrev pub table_memory : ℕ → ℕ
table_memory bands = ENTRY_BYTES * FIELDS + LINK_BYTES * (FIELDS + bands)

-- the table after one more look
abbrev pub looked : Table → Table
looked t = record t { looks = t.looks + 1 }

-- the entries and the first of each band stay, there are as many links, and the looks of the copy go on
pub record Stays (old new : Table) : Type 0 where
  pub entries : new.entries ≡ old.entries
  pub heads : new.heads ≡ old.heads
  pub links : length new.links ≡ length old.links
  pub begun : new.begun ≡ old.begun
