-- Where the items of a stream are: how many bytes are taken when each is given.
use Rattle.std.specs.Prelude.{ℕ, suc, Bool, true, false, List, [], ◌∷◌, ◌++◌, length, nat_lt, decimal, if◌then◌else◌}
use Rattle.vp_streams.specs.Count.{counted}
use Rattle.vp_engine.specs.Paper.{Reading}

-- an item and its place
pub record Placed (Item : Type 0) : Type 0 where
  pub offset : ℕ
  pub item : Item

module _ {Item : Type 0} (reading : Reading Item) where
  -- the length of the shortest front that gives more than k items, of those that have at least these bytes
  -- and then the first of the rest; that of all of them where none does
  unfoldable pub offset_from : ℕ → List ℕ → List ℕ → ℕ
  offset_from k front [] = length front
  offset_from k front (b ∷ rest) =
      if nat_lt k (length (reading.items front)) then length front else offset_from k (front ++ b ∷ []) rest

  -- the place of item k: the length of the shortest front that gives more than k items
  abbrev pub offset_of : List ℕ → ℕ → ℕ
  offset_of bytes k = offset_from k [] bytes

  -- items of the bytes from item k on, each with its place
  abbrev pub placed_from : List ℕ → ℕ → List Item → List (Placed Item)
  placed_from bytes k [] = []
  placed_from bytes k (item ∷ items) =
      record { offset = offset_of bytes k; item = item } ∷ placed_from bytes (suc k) items

-- an item with its place or without
abbrev pub ListedItem : Bool → Type 0 → Type 0
ListedItem false Item = Item
ListedItem true Item = Placed Item

abbrev pub listed_items
    : (with_offsets : Bool) → {Item : Type 0} → Reading Item → List ℕ → List (ListedItem with_offsets Item)
listed_items false reading bytes = reading.items bytes
listed_items true reading bytes = placed_from reading bytes 0 (reading.items bytes)

-- what bytes say, where each item has its place or none has
abbrev pub listed_by
    : (with_offsets : Bool) → {Item : Type 0} → Reading Item → Reading (ListedItem with_offsets Item)
listed_by with_offsets reading = record {
  items = listed_items with_offsets reading;
  fault_of = reading.fault_of;
  is_between = reading.is_between;
}

-- a line behind its place, which is in decimal and stops at the greatest u64, and a blank
abbrev pub offset_line : ℕ → List ℕ → List ℕ
offset_line offset line = decimal (counted offset) ++ 0x20 ∷ line

abbrev pub placed_line : {Item : Type 0} → (Item → List ℕ) → Placed Item → List ℕ
placed_line line placed = offset_line placed.offset (line placed.item)

-- the line of an item with its place or without
abbrev pub line_by
    : (with_offsets : Bool) → {Item : Type 0} → (Item → List ℕ) → ListedItem with_offsets Item → List ℕ
line_by false line = line
line_by true line = placed_line line
