-- The order in which the data bits are placed (ISO/IEC 18004, 7.7.3).
use Rattle.std.specs.Prelude.{ℕ, zero, suc, ◌+◌, ◌-◌, ◌*◌, ◌/◌, ◌%◌, ◌==◌, ◌&&◌, not, nat_lt, Bool, List, [], ◌∷◌, ◌++◌, if◌then◌else◌, slice_index}
use Rattle.std.specs.List.{filter, position_or_len}
use Rattle.std.specs.Int.{bit_at}
use Rattle.vp_qr.specs.declared.walk.Place.{Place}
use Rattle.vp_qr.specs.Places.{reserved, size}

-- the modules of a row in the column pair whose right column is c, the right one first
abbrev pub row_of_pair : ℕ → ℕ → List Place
row_of_pair c i = record { row = i; column = c } ∷ record { row = i; column = c - 1 } ∷ []

-- the n highest rows of a pair, upwards
unfoldable pub upwards : ℕ → ℕ → List Place
upwards c zero = []
upwards c (suc n) = row_of_pair c n ++ upwards c n

-- the n highest rows of a pair, downwards
unfoldable pub downwards : ℕ → ℕ → List Place
downwards c zero = []
downwards c (suc n) = downwards c n ++ row_of_pair c n

-- the right column of a pair, the pairs being counted from the left; column 6 is in none
abbrev pub right_column : ℕ → ℕ
right_column pair = if nat_lt pair 3 then 2 * pair + 1 else 2 * pair + 2

-- the n leftmost pairs, from the right: an odd one upwards, an even one downwards
unfoldable pub pairs : ℕ → ℕ → List Place
pairs s zero = []
pairs s (suc n) = (if n % 2 == 1 then upwards (right_column n) s else downwards (right_column n) s)
    ++ pairs s n

-- all modules but those of column 6, in the order of the standard; the rightmost pair is odd
unfoldable pub walk : ℕ → List Place
walk s = pairs s ((s - 1) / 2)

-- module number m of the walk, by arithmetic
unfoldable pub place : ℕ → ℕ → Place
place s m =
    let pair = (s - 1) / 2 - 1 - m / (2 * s) in
    let rows = m % (2 * s) / 2 in
    record { row = if pair % 2 == 1 then s - 1 - rows else rows; column = right_column pair - m % 2 }

-- and the number of a module on it
unfoldable pub rank : ℕ → ℕ → ℕ → ℕ
rank s i j =
    let pair = if nat_lt j 6 then j / 2 else (j - 1) / 2 in
    2 * s * ((s - 1) / 2 - 1 - pair) + 2 * (if pair % 2 == 1 then s - 1 - i else i) + (right_column pair - j)

-- how many modules the walk has
abbrev pub steps : ℕ → ℕ
steps s = s * (s - 1)

-- a module holds data
abbrev pub is_free : ℕ → Place → Bool
is_free v p = not (reserved v p.row p.column)

-- the modules that hold data
unfoldable pub free_places : ℕ → List Place
free_places v = filter (is_free v) (walk (size v))

-- a module is that of row i and column j
abbrev pub is_at : ℕ → ℕ → Place → Bool
is_at i j p = p.row == i && p.column == j

-- the number of a module among them
unfoldable pub number_of : ℕ → ℕ → ℕ → ℕ
number_of v i j = position_or_len (is_at i j) (free_places v)

-- bit k of bytes, the highest bit of each first; zeros follow
unfoldable pub data_bit : List ℕ → ℕ → Bool
data_bit bytes k = bit_at (slice_index bytes (k / 8)) (7 - k % 8) == 1

-- a module of rows of bits
unfoldable pub dark : List ℕ → ℕ → ℕ → Bool
dark rows i j = bit_at (slice_index rows i) j == 1
