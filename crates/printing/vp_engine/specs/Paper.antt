-- A language as data, and what is said of every language.
use Rattle.std.specs.Prelude.{◌≡◌, ◌≤◌, ◌<◌, ℕ, Bool, true, if◌then◌else◌, List, [], ◌∷◌, ◌++◌, length, drop, reverse, Option, Some, None, is_some}
use Rattle.std.specs.Option.{option_or}
use Rattle.vp_dots.specs.declared.fault.Fault.{Fault}
use Rattle.vp_dots.specs.declared.fault.Fault.TheVariants.{Truncated, Unprinted}
use Rattle.vp_dots.specs.Faults.{number_of}
use Rattle.vp_engine.specs.declared.held.Held.{Held}
use Rattle.vp_engine.specs.Bytes.{IsPrefix}

-- what bytes say: their items, the fault that the last byte makes, and whether they end between commands
pub record Reading (Item : Type 0) : Type 0 where
  pub items : List ℕ → List Item
  pub fault_of : List ℕ → Option Fault
  pub is_between : List ℕ → Bool

-- a language: what bytes say, and of an item, by the items before it, the newest first, what it prints and
-- why it is refused; by all items whether all is printed, and what is held while these bytes are pending
pub record Rules (Item : Type 0) : Type 0 where
  pub reading : Reading Item
  pub prints : List Item → Item → List ℕ
  pub refusal : List Item → Item → Option Fault
  pub is_at_rest : List Item → Bool
  pub held : List Item → List ℕ → Held

-- nothing is held beside settings and the row in hand
abbrev pub nothing_held : Held
nothing_held = record { line_rows = 0; page_rows = 0; band_rows = 0; stored = 0; fields = 0 }

-- a listing: each item prints its line
abbrev pub listing : {Item : Type 0} → Reading Item → (Item → List ℕ) → Rules Item
listing reading line = record {
  reading = reading;
  prints = λ before item. line item;
  refusal = λ before item. None;
  is_at_rest = λ before. true;
  held = λ before pending. nothing_held;
}

-- what the items of all bytes have in common: none of no bytes, and no fault; what is given stays given, and
-- a fault stays
pub record Reads {Item : Type 0} (reading : Reading Item) : Type 0 where
  pub nothing : reading.items [] ≡ []
  pub no_fault : reading.fault_of [] ≡ None
  pub grows : (bytes more : List ℕ) → IsPrefix (reading.items bytes) (reading.items (bytes ++ more))
  pub stays : (bytes more : List ℕ) (f : Fault)
      → reading.fault_of bytes ≡ Some f → reading.fault_of (bytes ++ more) ≡ Some f

-- F1 to F7, which a byte makes
abbrev pub IsOfByte : Fault → Type 0
IsOfByte f = number_of f ≤ 7

-- F8 and F9, which are what is missing where bytes end
abbrev pub IsOfEnd : Fault → Type 0
IsOfEnd f = 7 < number_of f

-- where bytes end: a command's end, or what would print what is gathered
abbrev pub missing : Bool → Bool → Option Fault
missing is_between at_rest = if is_between then (if at_rest then None else Some Unprinted) else Some Truncated

module _ {Item : Type 0} (rules : Rules Item) where
  -- the items of the bytes, the newest first
  abbrev pub history : List ℕ → List Item
  history bytes = reverse (rules.reading.items bytes)

  -- why the newest item is refused
  abbrev pub newest_refusal : List Item → Option Fault
  newest_refusal [] = None
  newest_refusal (item ∷ before) = rules.refusal before item

  -- the fault at the last byte, where there is none before: it ends no known command, or an item that is
  -- refused
  abbrev pub fault_at : List ℕ → Option Fault
  fault_at bytes = option_or (rules.reading.fault_of bytes) (newest_refusal (history bytes))

  -- the first fault in the order of the bytes, of those that have this front and then the rest: that of the
  -- shortest front with more of them that has one
  unfoldable pub first_fault : List ℕ → List ℕ → Option Fault
  first_fault front [] = None
  first_fault front (b ∷ rest) =
      option_or (fault_at (front ++ b ∷ [])) (first_fault (front ++ b ∷ []) rest)

  -- the bytes before the one that makes the first fault, of those that have this front and then the rest: all
  -- where none does
  unfoldable pub sound : List ℕ → List ℕ → List ℕ
  sound front [] = front
  sound front (b ∷ rest) =
      if is_some (fault_at (front ++ b ∷ [])) then front else sound (front ++ b ∷ []) rest

  -- the first fault of the bytes
  unfoldable pub fault : List ℕ → Option Fault
  fault bytes = first_fault [] bytes

  -- the bytes before it
  unfoldable pub before_fault : List ℕ → List ℕ
  before_fault bytes = sound [] bytes

  -- what all items print
  abbrev pub printed : List Item → List ℕ
  printed [] = []
  printed (item ∷ before) = printed before ++ rules.prints before item

  -- what all items before the first fault print
  unfoldable pub paper : List ℕ → List ℕ
  paper bytes = printed (history (before_fault bytes))

  -- what is missing where the bytes end
  unfoldable pub ending : List ℕ → Option Fault
  ending bytes = missing (rules.reading.is_between bytes) (rules.is_at_rest (history bytes))

  -- the first fault, else that of ending here
  abbrev pub fault_at_end : List ℕ → Option Fault
  fault_at_end bytes = option_or (fault bytes) (ending bytes)

  -- what is held where these bytes are taken and those put out
  abbrev pub held_after : List ℕ → List ℕ → Held
  held_after taken put = rules.held (history (before_fault taken)) (drop (length put) (paper taken))
