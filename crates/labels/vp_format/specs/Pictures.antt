-- The rows of a picture: each symbol covers a span of places, two places to a byte.
use Rattle.std.specs.Prelude.{ℕ, zero, suc, ◌+◌, ◌-◌, ◌*◌, ◌/◌, ◌%◌, min, nat_lt, Bool, true, false, ◌==◌, List, [], ◌∷◌, length, slice_index, if◌then◌else◌}
use Rattle.std.specs.Prelude.{Result, Ok, Err}
use Rattle.vp_dots.specs.declared.fault.Fault.{Fault}
use Rattle.vp_dots.specs.declared.fault.Fault.TheVariants.{Graphic}
use Rattle.vp_format.specs.declared.rows.Coding.{Coding}
use Rattle.vp_format.specs.declared.codes.Symbol.{Symbol}
use Rattle.vp_format.specs.declared.codes.Symbol.TheVariants.{Digits, ToEnd, Again, Refused}
use Rattle.vp_format.specs.Codes.{Spelled, symbols}

-- what a place shows: a value, what the place above shows, or a symbol that is refused
pub data Shown : Type 0 where
  Value : ℕ → Shown
  AsAbove : Shown
  Unreadable : Shown

-- where a symbol that starts at a place ends: a digit's run after as many places, any other at the row's end
abbrev pub end_of : ℕ → ℕ → Symbol → ℕ
end_of width start (Digits n v) = start + n
end_of width start _ = (start / width + 1) * width

-- what its places show: `:` repeats a row at a row's start alone
abbrev pub shows : ℕ → ℕ → Symbol → Shown
shows width start (Digits n v) = Value v
shows width start (ToEnd v) = Value v
shows width start Again = if start % width == 0 then AsAbove else Unreadable
shows width start Refused = Unreadable

-- what a place shows, in rows of `width` places, where the first of the symbols starts at place `start`: the
-- symbols stand one after the other, and a place that none covers is 0
abbrev pub shown_at : ℕ → ℕ → List Spelled → ℕ → Shown
shown_at width start [] place = Value 0
shown_at width start (s ∷ ss) place =
    if nat_lt place (end_of width start s.symbol) then shows width start s.symbol
    else shown_at width (end_of width start s.symbol) ss place

-- the bytes of the symbols that start before a place
abbrev pub bytes_before : ℕ → ℕ → List Spelled → ℕ → ℕ
bytes_before width start [] place = 0
bytes_before width start (s ∷ ss) place =
    if nat_lt start place then s.bytes + bytes_before width (end_of width start s.symbol) ss place else 0

abbrev pub is_unreadable : Shown → Bool
is_unreadable Unreadable = true
is_unreadable _ = false

abbrev pub is_above : Shown → Bool
is_above AsAbove = true
is_above _ = false

abbrev pub value_of : Shown → ℕ → ℕ
value_of (Value v) above = v
value_of AsAbove above = above
value_of Unreadable above = 0

-- codes, and the rows that they are read for
pub record Picture : Type 0 where
  pub coding : Coding
  pub codes : List ℕ
  pub row_bytes : ℕ
  pub rows : ℕ

abbrev pub width_of : Picture → ℕ
width_of p = 2 * p.row_bytes

-- what place x of row y shows
unfoldable pub place_of : Picture → ℕ → ℕ → Shown
place_of p y x = shown_at (width_of p) 0 (symbols p.coding p.codes) (width_of p * y + x)

-- the value of place x of row y: one row earlier where `:` covers it, and 0 above the first row
unfoldable pub value : Picture → ℕ → ℕ → ℕ
value p zero x = value_of (place_of p zero x) 0
value p (suc y) x = value_of (place_of p (suc y) x) (value p y x)

-- a refused symbol starts in the row: it covers the row's last place
unfoldable pub is_refused : Picture → ℕ → Bool
is_refused p y = is_unreadable (place_of p y (width_of p - 1))

-- the row is `:`
unfoldable pub is_repeat : Picture → ℕ → Bool
is_repeat p y = is_above (place_of p y 0)

-- where row y starts in the codes: behind the bytes of the symbols that start before it
unfoldable pub start_of : Picture → ℕ → ℕ
start_of p y = bytes_before (width_of p) 0 (symbols p.coding p.codes) (width_of p * y)

-- from where the row above row y is read: from the start of the last one that isn't `:`; above the first row
-- all is white, as it is read from the codes' end
unfoldable pub above_from : Picture → ℕ → ℕ
above_from p zero = length p.codes
above_from p (suc y) = if is_repeat p y then above_from p y else start_of p y

-- where reading may start for the rows from y on: at the row above, or at row y where there is none
unfoldable pub bound_of : Picture → ℕ → ℕ
bound_of p y = min (above_from p y) (start_of p y)

-- the value of a place of a row of bytes: two to a byte, the first one high
unfoldable pub nibble : List ℕ → ℕ → ℕ
nibble row x = if x % 2 == 0 then slice_index row (x / 2) / 16 else slice_index row (x / 2) % 16

-- what reading row y answers: whether there is one, or the fault
abbrev pub answer : Picture → ℕ → Result Bool Fault
answer p y = if nat_lt y p.rows then (if is_refused p y then Err Graphic else Ok true) else Ok false

-- the row to be read after it: the same one but after a row
abbrev pub row_after : Picture → ℕ → ℕ
row_after p y = if nat_lt y p.rows then (if is_refused p y then y else y + 1) else y

-- a fault, or what comes later
abbrev pub unless_fault : Result Bool Fault → Result (Unit {0}) Fault → Result (Unit {0}) Fault
unless_fault (Err why) later = Err why
unless_fault (Ok read) later = later

-- what this number of readings answers from row y on: the first fault that one of them does
unfoldable pub passing : Picture → ℕ → ℕ → Result (Unit {0}) Fault
passing p y zero = Ok tt
passing p y (suc n) = unless_fault (answer p y) (passing p (row_after p y) n)

-- the row to be read after this number of readings from row y on
unfoldable pub rows_after : Picture → ℕ → ℕ → ℕ
rows_after p y zero = y
rows_after p y (suc n) = rows_after p (row_after p y) n

-- a cursor before a row of a picture, and the row before which it began
pub record Cursor : Type 0 where
  pub picture : Picture
  pub first : ℕ
  pub next : ℕ
