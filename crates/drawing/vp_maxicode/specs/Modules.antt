-- The modules of a finished symbol (ISO/IEC 16023, symbol structure).
use Rattle.std.specs.Prelude.{ℕ, ◌+◌, ◌-◌, ◌*◌, ◌/◌, ◌%◌, ◌==◌, ◌&&◌, ◌||◌, nat_lt, Bool, false, List, slice_index, Option, Some, None, if◌then◌else◌}
use Rattle.std.specs.List.{list_any}
use Rattle.std.specs.Int.{bit_at}
use Rattle.vp_maxicode.specs.declared.place.TheConstants.{MARKS}
use Rattle.vp_maxicode.specs.Places.{across, number_at}

-- a symbol in hand: the primary message, and the two blocks of the secondary one, each data and check
pub record MaxiCodeSymbol : Type 0 where
  pub primary : List ℕ
  pub even : List ℕ
  pub odd : List ℕ

-- codeword k: 20 of the primary message, and those of the two blocks in turn
unfoldable pub codeword : MaxiCodeSymbol → ℕ → ℕ
codeword s k =
    if nat_lt k 20 then slice_index s.primary k
    else if k % 2 == 0 then slice_index s.even ((k - 20) / 2)
    else slice_index s.odd ((k - 20) / 2)

-- bit n of all codewords, the highest of each first
unfoldable pub bit : MaxiCodeSymbol → ℕ → Bool
bit s n = bit_at (codeword s (n / 6)) (5 - n % 6) == 1

abbrev pub bit_by : MaxiCodeSymbol → Option ℕ → Bool
bit_by s None = false
bit_by s (Some n) = bit s n

-- a dark module of the orientation patterns, or one of the two behind the first row's codewords
abbrev pub is_mark : ℕ → ℕ → Bool
is_mark row column = list_any (λ place. place == 30 * row + column) MARKS

-- whether a module is dark: one of a mark, or of a codeword's bit; the finder has none
unfoldable pub dark : MaxiCodeSymbol → ℕ → ℕ → Bool
dark s row column =
    nat_lt row 33 && (nat_lt column (across row) && (is_mark row column || bit_by s (number_at row column)))
