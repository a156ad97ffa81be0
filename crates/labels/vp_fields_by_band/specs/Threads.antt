-- Fields threaded by numbers in a table.
use Rattle.std.specs.Prelude.{◌≡◌, ◌≢◌, ℕ, ◌+◌, ◌<◌, ◌≤◌, Bool, true, false, ◌&&◌, List, length, Option, None, Some, nat_eq, nat_lt, nat_le, slice_index_or, slice_set}
use Rattle.vp_fields_by_band.specs.declared.table.Entry.{Entry}
use Rattle.vp_fields_by_band.specs.declared.walk.Walk.{Walk}

-- the entry of a field that meets no band
abbrev pub no_entry : Entry
no_entry = record { first = 1; last = 0; next = None }

-- there is none behind the table's end
abbrev pub entry_at : List Entry → ℕ → Entry
entry_at entries k = slice_index_or entries k no_entry

-- whether the field's rows begin in the band
abbrev pub begins_in : ℕ → Entry → Bool
begins_in b e = nat_eq e.first b && nat_le b e.last

-- whether they began before, and reach the band
abbrev pub is_carried : ℕ → Entry → Bool
is_carried b e = nat_lt e.first b && nat_le b e.last

-- whether the field has a row in the band
abbrev pub meets : ℕ → Entry → Bool
meets b e = nat_le e.first b && nat_le b e.last

-- whether the rows of entry k of the table begin in the band
abbrev pub begins_at : List Entry → ℕ → ℕ → Bool
begins_at entries b k = begins_in b (entry_at entries k)

-- whether those of entry k began before, and reach the band
abbrev pub carried_at : List Entry → ℕ → ℕ → Bool
carried_at entries b k = is_carried b (entry_at entries k)

abbrev pub meets_at : List Entry → ℕ → ℕ → Bool
meets_at entries b k = meets b (entry_at entries k)

-- the first number in from..to that passes the test, if there is one
abbrev pub IsNext : (ℕ → Bool) → ℕ → ℕ → Option ℕ → Type 0
IsNext p from to None = (k : ℕ) → from ≤ k → k < to → p k ≡ false
IsNext p from to (Some n) = (from ≤ n) × (n < to) × (p n ≡ true) × ((k : ℕ) → from ≤ k → k < n → p k ≡ false)

-- the last number below `to` that passes the test, if there is one
abbrev pub IsLast : (ℕ → Bool) → ℕ → Option ℕ → Type 0
IsLast p to None = (k : ℕ) → k < to → p k ≡ false
IsLast p to (Some n) = (n < to) × (p n ≡ true) × ((k : ℕ) → n < k → k < to → p k ≡ false)

abbrev pub link_at : List (Option ℕ) → ℕ → Option ℕ
link_at links k = slice_index_or links k None

-- the fields that begin in each band are threaded
pub record IsTable (entries : List Entry) : Type 0 where
  pub begins : (b k : ℕ) → k < length entries → begins_at entries b k ≡ true →
      IsNext (begins_at entries b) (k + 1) (length entries) (entry_at entries k).next

-- the fields that begin before the band and reach it are threaded from this start
pub record IsThreaded (entries : List Entry) (links : List (Option ℕ)) (b : ℕ)
    (start : Option ℕ) : Type 0 where
  pub head : IsNext (carried_at entries b) 0 (length entries) start
  pub rest : (k : ℕ) → k < length entries → carried_at entries b k ≡ true →
      IsNext (carried_at entries b) (k + 1) (length entries) (link_at links k)

-- a walk over the fields of band b: what is ahead is threaded for this band, what is behind for the next
pub record IsWalk (entries : List Entry) (links : List (Option ℕ)) (b : ℕ) (w : Walk) : Type 0 where
  pub within : w.seen ≤ length entries
  pub carried : IsNext (carried_at entries b) w.seen (length entries) w.carried
  pub begins : IsNext (begins_at entries b) w.seen (length entries) w.begins
  pub ahead : (k : ℕ) → w.seen ≤ k → k < length entries → carried_at entries b k ≡ true →
      IsNext (carried_at entries b) (k + 1) (length entries) (link_at links k)
  pub kept : IsNext (carried_at entries (b + 1)) 0 w.seen w.kept
  pub tail : IsLast (carried_at entries (b + 1)) w.seen w.tail
  pub behind : (k : ℕ) → k < w.seen → carried_at entries (b + 1) k ≡ true → Some k ≢ w.tail →
      IsNext (carried_at entries (b + 1)) (k + 1) w.seen (link_at links k)

-- the links once field n follows the tail
abbrev pub linked : List (Option ℕ) → Option ℕ → ℕ → List (Option ℕ)
linked links None n = links
linked links (Some t) n = slice_set links t (Some n)

-- the first field kept, with n added
abbrev pub first_kept : Option ℕ → ℕ → Option ℕ
first_kept None n = Some n
first_kept (Some m) n = Some m

-- the links once the tail is the end
abbrev pub ended : List (Option ℕ) → Option ℕ → List (Option ℕ)
ended links None = links
ended links (Some t) = slice_set links t None

-- the field begins in one of the bands, or meets none
abbrev pub IsPlaced : Entry → ℕ → Type 0
IsPlaced e bands = e.first ≤ e.last → e.first < bands

-- the bands of each field stay
abbrev pub KeepsSpans : List Entry → List Entry → Type 0
KeepsSpans old new = (k : ℕ) →
    ((entry_at new k).first ≡ (entry_at old k).first) × ((entry_at new k).last ≡ (entry_at old k).last)

-- the fields from k on are threaded, each band's from its head
pub record ThreadedFrom (entries : List Entry) (tops : List (Option ℕ)) (k : ℕ) : Type 0 where
  pub heads : (b : ℕ) → IsNext (begins_at entries b) k (length entries) (link_at tops b)
  pub rest : (b j : ℕ) → k ≤ j → j < length entries → begins_at entries b j ≡ true →
      IsNext (begins_at entries b) (j + 1) (length entries) (entry_at entries j).next
