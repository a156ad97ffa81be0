-- What a cursor keeps of the codes.
use Rattle.std.specs.Prelude.{◌≡◌, ℕ, zero, suc, nat_lt, Bool, true, false, ◌&&◌, ◌||◌, ◌*◌, ◌+◌, ◌-◌, ◌≤◌, ◌<◌, ◌==◌, if◌then◌else◌, List, ◌∷◌, drop, length, slice_index, Option, None, Some, Result, Ok, Err}
use Rattle.std.specs.Int.{w64, trailing_zeros}
use Rattle.vp_dots.specs.declared.fault.Fault.{Fault}
use Rattle.vp_format.specs.declared.codes.Code.{Code}
use Rattle.vp_format.specs.declared.codes.Code.TheVariants.{Digit, Count, Fill}
use Rattle.vp_format.specs.declared.packing.TheConstants.{SHORT}
use Rattle.vp_format.specs.declared.reading.Codes.{Codes}
use Rattle.vp_format.specs.declared.row.RowEnd.{RowEnd}
use Rattle.vp_format.specs.declared.rows.Coding.{Coding}
use Rattle.vp_format.specs.declared.rows.Coding.TheVariants.{RunLength, Binary}
use Rattle.vp_format.specs.declared.rows.Spot.{Spot}
use Rattle.vp_format.specs.declared.rows.RunMark.{RunMark}
use Rattle.vp_format.specs.declared.rows.RunRows.TheInside.{Inside}
use Rattle.vp_format.specs.declared.codes.Symbol.{Symbol}
use Rattle.vp_format.specs.declared.codes.Symbol.TheVariants.{Digits, ToEnd}
use Rattle.vp_format.specs.Codes.{Spelled, spelled, code_of, symbols}
use Rattle.vp_format.specs.Pictures.{Value, AsAbove, shown_at, is_unreadable, bytes_before, value_of, Picture, width_of, value, is_refused, above_from, bound_of, start_of, nibble, Cursor}

-- the value of a digit, and 16 of another code
abbrev pub digit_value : Code → ℕ
digit_value (Digit v) = v
digit_value _ = 16

-- what a code adds to the counts before it: a digit nothing, and what is neither more than any count
abbrev pub count_value : Code → ℕ
count_value (Digit v) = 0
count_value (Count n) = n
count_value _ = 1000

-- a count of one letter up to `Y`
abbrev pub IsShortCount : Code → Type 0
IsShortCount c = (0 < count_value c) × (count_value c < 20)

-- a digit, or such a count before a digit
abbrev pub IsRun : Code → Code → Type 0
IsRun c next = 16 ≤ digit_value c → IsShortCount c × (digit_value next < 16)

-- the places that a code adds: a digit one, a count what it says but the one of its digit
abbrev pub places_of : Code → ℕ
places_of c = if nat_lt (digit_value c) 16 then 1 else count_value c - 1

-- the places that n codes from a place on add
unfoldable pub added : List ℕ → ℕ → ℕ → ℕ
added codes at zero = 0
added codes at (suc n) = added codes at n + places_of (code_of (slice_index codes (at + n)))

-- the first bit of a mask that is set, and 16 where none is
abbrev pub first_set : ℕ → ℕ
first_set mask = if mask == 0 then 16 else trailing_zeros w64 mask

-- values are digits, and a count is 400 at most
abbrev pub SmallCode : Code → Type 0
SmallCode (Digit v) = v < 16
SmallCode (Count n) = (0 < n) × (n ≤ 400)
SmallCode (Fill v) = v < 16
SmallCode _ = Unit {0}

-- a digit stands once at least
abbrev pub SmallSymbol : Symbol → Type 0
SmallSymbol (Digits n v) = (0 < n) × (v < 16)
SmallSymbol (ToEnd v) = v < 16
SmallSymbol _ = Unit {0}

-- no more bytes were handed out than there are before the place
pub record IsReading (c : Codes) : Type 0 where
  pub at : c.at ≤ length c.bytes.now
  pub read : c.read ≤ c.at

-- of the same codes more bytes may have been handed out, each of them counted
pub record Advanced (old new : Codes) : Type 0 where
  pub bytes : new.bytes.now ≡ old.bytes.now
  pub at : old.at ≤ new.at
  pub read : new.read + old.at ≡ old.read + new.at
  pub reading : IsReading new

-- the bytes in hand, none or one
abbrev pub held : Option ℕ → ℕ
held None = 0
held (Some b) = 1

-- the byte in hand is the last one handed out
abbrev pub InHand : Codes → Option ℕ → Type 0
InHand c None = Unit {0}
InHand c (Some b) = (0 < c.at) × (b ≡ slice_index c.bytes.now (c.at - 1)) × (b < 256)

-- the run-length symbols from a place of the codes on
abbrev pub symbols_from : List ℕ → ℕ → List Spelled
symbols_from codes at = symbols RunLength (drop at codes)

-- a place of the codes, and what is left there of a run
pub record IsSpot (codes : List ℕ) (s : Spot) : Type 0 where
  pub at : s.at ≤ length codes
  pub digit : s.digit < 16

-- of bytes as they are no run reaches into a row
abbrev pub IsWhole : Coding → Spot → Type 0
IsWhole RunLength s = Unit {0}
IsWhole Binary s = (s.left ≡ 0) × (s.digit ≡ 0)

-- the symbols from a spot on
abbrev pub symbols_at : Coding → List ℕ → Spot → List Spelled
symbols_at coding codes s = spelled (Digits s.left s.digit) 0 ∷ symbols coding (drop s.at codes)

-- the spot `k` rows of `width` places later, where no code is read
abbrev pub spot_behind : ℕ → Spot → ℕ → Spot
spot_behind width s k = record { left = s.left - width * k; digit = s.digit; at = s.at }

-- no code is left from a spot on, and no run but a white one: white is all that comes
abbrev pub is_white : ℕ → Spot → Bool
is_white codes s = s.at == codes && (s.left == 0 || s.digit == 0)

-- the row before white is all that comes may have no code
abbrev pub white_rest : ℕ → Spot → ℕ
white_rest codes s = if is_white codes s then 1 else 0

-- rows from a spot on show one value, no code spells them, and the row behind them starts at another spot
pub record Even (width : ℕ) (coding : Coding) (codes : List ℕ) (s : Spot) (k v : ℕ) (after : Spot)
    : Type 0 where
  pub spot : IsSpot codes after
  pub whole : IsWhole coding after
  pub at : after.at ≡ s.at
  pub shows : (j : ℕ) → j < width * k → shown_at width 0 (symbols_at coding codes s) j ≡ Value v
  pub none : (j : ℕ) → j ≤ width * k → bytes_before width 0 (symbols_at coding codes s) j ≡ 0
  pub next : (j : ℕ) → shown_at width 0 (symbols_at coding codes s) (width * k + j)
      ≡ shown_at width 0 (symbols_at coding codes after) j
  pub bytes : (j : ℕ) → bytes_before width 0 (symbols_at coding codes s) (width * k + j)
      ≡ bytes_before width 0 (symbols_at coding codes after) j

-- places from <= j < to have the value, and those before are as they were
pub record Filled (from to v : ℕ) (old new : List ℕ) : Type 0 where
  pub kept : (j : ℕ) → j < from → slice_index new j ≡ slice_index old j
  pub filled : (j : ℕ) → from ≤ j → j < to → slice_index new j ≡ v

-- the places before x have values of digits
abbrev pub AreSmall : ℕ → List ℕ → Type 0
AreSmall x places = (j : ℕ) → j < x → slice_index places j < 16

-- the symbols, of which the first is spelled from a place of the codes on, show what the places of the row
-- have before place x, and from there on what those show that are left, which are spelled from a later place
-- on
pub record Reached (width : ℕ) (all : List Spelled) (from : ℕ) (places : List ℕ) (x : ℕ)
    (left : List Spelled) (at : ℕ) : Type 0 where
  pub so_far : (j : ℕ) → j < x → shown_at width 0 all j ≡ Value (slice_index places j)
  pub small : AreSmall x places
  pub ahead : (j : ℕ) → x ≤ j → shown_at width 0 all j ≡ shown_at width x left j
  pub bytes : (j : ℕ) → x ≤ j → from + bytes_before width 0 all j ≡ at + bytes_before width x left j

-- the same with the symbol that a reader of the codes gave out last, if it gave one: the bytes that spell it
-- are the last before its place
abbrev pub ReachedNext : ℕ → List Spelled → ℕ → List ℕ → ℕ → Codes → Option Symbol → Type 0
ReachedNext width all from places x c None =
    Reached width all from places x (symbols_from c.bytes.now c.at) c.at
ReachedNext width all from places x c (Some s) = (k : ℕ) × ((k ≤ c.at)
    × Reached width all from places x (spelled s k ∷ symbols_from c.bytes.now c.at) (c.at - k))

-- what n codes from one on leave in the row from a place on: the symbols behind them are left, or, behind a
-- count, from that count on, and its places but one have the value of the digit behind it
unfoldable pub Put : ℕ → List Spelled → ℕ → List ℕ → ℕ → List ℕ → ℕ → ℕ → Type 0
Put width all start places from codes at zero =
    Reached width all start places from (symbols_from codes at) at
Put width all start places from codes at (suc n) =
    (digit_value (code_of (slice_index codes (at + n))) < 16 →
    Reached width all start places (from + added codes at (suc n)) (symbols_from codes (at + suc n))
    (at + suc n))
    × (16 ≤ digit_value (code_of (slice_index codes (at + n))) →
    Reached width all start places (from + added codes at n) (symbols_from codes (at + n)) (at + n)
    × ((i : ℕ) → from + added codes at n ≤ i → i < from + added codes at (suc n) →
    slice_index places i ≡ digit_value (code_of (slice_index codes (at + suc n)))))

-- none of the symbols that start before a place is refused, and the places from there on show what those show
-- that are left
pub record Passed (width : ℕ) (all : List Spelled) (x : ℕ) (left : List Spelled) : Type 0 where
  pub taken : (j : ℕ) → j < x → is_unreadable (shown_at width 0 all j) ≡ false
  pub ahead : (j : ℕ) → x ≤ j → shown_at width 0 all j ≡ shown_at width x left j

-- there is room from a place on for the rest of a row of so many places, and some more
pub record HasRoom (width : ℕ) (places : List ℕ) (x : ℕ) : Type 0 where
  pub from : x ≤ width
  pub short : width ≤ 2048
  pub room : width + SHORT ≤ length places

-- codes are read into the places, from a place and a byte on to later ones
pub record ReadsOn (width : ℕ) (codes old : List ℕ) (x at : ℕ) (new : List ℕ) (y to : ℕ) : Type 0 where
  pub len : length new ≡ length old
  pub after : x ≤ y
  pub place : y ≤ width
  pub behind : at ≤ to
  pub inside : to ≤ length codes
  pub reached : (all : List Spelled) (start : ℕ) → Reached width all start old x (symbols_from codes at) at
      → Reached width all start new y (symbols_from codes to) to

-- codes are passed, from a place and a byte on to later ones
pub record PassesOn (codes : List ℕ) (x at y to : ℕ) : Type 0 where
  pub behind : at ≤ to
  pub inside : to ≤ length codes
  pub passed : (width : ℕ) (all : List Spelled) → Passed width all x (symbols_from codes at)
      → Passed width all y (symbols_from codes to)

-- the row that starts at a spot stands in the bytes, which were those of the row before; it is that one once
-- more or not, and the next row starts at another spot
pub record Decoded (width : ℕ) (coding : Coding) (codes : List ℕ) (s : Spot) (end : RowEnd) (after : Spot)
    (old new : List ℕ) : Type 0 where
  pub spot : IsSpot codes after
  pub whole : IsWhole coding after
  pub row : (j : ℕ) → j < width →
      nibble new j ≡ value_of (shown_at width 0 (symbols_at coding codes s) j) (nibble old j)
  pub own : end.repeats ≡ false → (j : ℕ) → j < width →
      shown_at width 0 (symbols_at coding codes s) j ≡ Value (nibble new j)
  pub again : end.repeats ≡ true → (j : ℕ) → j < width →
      shown_at width 0 (symbols_at coding codes s) j ≡ AsAbove
  pub next : (j : ℕ) → shown_at width 0 (symbols_at coding codes s) (width + j)
      ≡ shown_at width 0 (symbols_at coding codes after) j
  pub bytes : (j : ℕ) → s.at + bytes_before width 0 (symbols_at coding codes s) (width + j)
      ≡ after.at + bytes_before width 0 (symbols_at coding codes after) j

-- what reading the row that starts at a spot answers: it is decoded, up to a place of the codes, or a symbol
-- is refused that starts in it
abbrev pub RowRead : ℕ → Coding → List ℕ → Spot → Result RowEnd Fault → ℕ → List ℕ → List ℕ → Type 0
RowRead width coding codes s (Ok end) at old new =
    Decoded width coding codes s end (record { left = end.left; digit = end.digit; at = at }) old new
RowRead width coding codes s (Err why) at old new =
    is_unreadable (shown_at width 0 (symbols_at coding codes s) (width - 1)) ≡ true

-- the values of the row before, and 0 above the first
abbrev pub above : Picture → ℕ → ℕ → ℕ
above p zero j = 0
above p (suc y) j = value p y j

-- the row before which the cursor stood
abbrev pub marked_row : RunMark → ℕ
marked_row m = m.next

-- what the call `mark` of a cursor in a picture gives: the symbols at its place are those of its row, and the
-- row that starts at the place before, which is read up to its own place at most, is the row above
pub record IsMark (p : Picture) (m : RunMark) : Type 0 where
  pub here : IsSpot p.codes m.here
  pub whole : IsWhole p.coding m.here
  pub shown_is : (j : ℕ) → shown_at (width_of p) 0 (symbols p.coding p.codes) (width_of p * m.next + j)
      ≡ shown_at (width_of p) 0 (symbols_at p.coding p.codes m.here) j
  pub bytes_is : (j : ℕ) → bytes_before (width_of p) 0 (symbols p.coding p.codes) (width_of p * m.next + j)
      ≡ m.here.at + bytes_before (width_of p) 0 (symbols_at p.coding p.codes m.here) j
  pub before : IsSpot p.codes m.before
  pub whole_before : IsWhole p.coding m.before
  pub before_is : m.before.at ≡ above_from p m.next
  pub above_is : (j : ℕ) → j < width_of p →
      shown_at (width_of p) 0 (symbols_at p.coding p.codes m.before) j ≡ Value (above p m.next j)
  pub above_bytes : bytes_before (width_of p) 0 (symbols_at p.coding p.codes m.before) (width_of p)
      ≤ m.here.at - m.before.at

abbrev pub picture_of : Inside → Picture
picture_of c = record { coding = c.coding; codes = c.codes.bytes.now; row_bytes = c.row_bytes; rows = c.rows }

abbrev pub cursor_of : Inside → Cursor
cursor_of c = record { picture = picture_of c; first = c.first; next = c.mark.next }

-- each row that was passed by its codes has a byte of them, or is the last before white is all that comes, or
-- is the row before the first
pub record ArePassed (c : Inside) : Type 0 where
  pub bytes : start_of (picture_of c) c.first + c.passed
      ≤ c.mark.here.at + white_rest (length c.codes.bytes.now) c.mark.here + 1
  pub rows : c.first + c.passed ≤ c.mark.next + 1

-- the cursor keeps the row before, until one is refused
pub record IsCursor (c : Inside) : Type 0 where
  pub some : 0 < c.row_bytes
  pub short : c.row_bytes ≤ 1024
  pub mark : IsMark (picture_of c) c.mark
  pub kept : c.refused ≡ false → (j : ℕ) → j < 2 * c.row_bytes →
      nibble c.row j ≡ above (picture_of c) c.mark.next j
  pub place : c.refused ≡ false → c.codes.at ≡ c.mark.here.at
  pub stopped : c.refused ≡ true → is_refused (picture_of c) c.mark.next ≡ true
  pub reading : IsReading c.codes
  pub least : c.mark.here.at ≤ start_of (picture_of c) c.first + c.codes.read
  pub most : bound_of (picture_of c) c.first + c.codes.read ≤ c.codes.at
  pub passed : ArePassed c
