-- The data codewords of bits (ISO/IEC 24778, bit stuffing and padding).
use Rattle.std.specs.Prelude.{ℕ, zero, suc, ◌+◌, ◌-◌, ◌*◌, ◌^◌, ◌==◌, ◌||◌, nat_le, Bool, true, List, [], ◌∷◌, ◌++◌, length, slice_index_or, if◌then◌else◌}
use Rattle.std.specs.Int.{bit_at}

-- the n lowest bits of a number, the highest first
abbrev pub number : ℕ → ℕ → List Bool
number zero value = []
number (suc n) value = (bit_at value n == 1) ∷ number n value

-- the bits of codes
abbrev pub bits_of : List (ℕ × ℕ) → List Bool
bits_of [] = []
bits_of (code ∷ codes) = number code.0 code.1 ++ bits_of codes

-- the number that n bits from place i on make; ones stand behind the last bit
unfoldable pub value : List Bool → ℕ → ℕ → ℕ
value bits i zero = 0
value bits i (suc n) = 2 * value bits i n + (if slice_index_or bits (i + n) true then 1 else 0)

-- all bits of a codeword but its last are alike
abbrev pub is_plain : ℕ → List Bool → ℕ → Bool
is_plain w bits i = value bits i (w - 1) == 0 || value bits i (w - 1) == 2 ^ (w - 1) - 1

-- the codeword of w bits from place i on: where they are alike, the other bit is put behind them
unfoldable pub word : ℕ → List Bool → ℕ → ℕ
word w bits i =
    if value bits i (w - 1) == 0 then 1
    else if value bits i (w - 1) == 2 ^ (w - 1) - 1 then 2 ^ w - 2
    else value bits i w

-- how many bits it takes
unfoldable pub taken : ℕ → List Bool → ℕ → ℕ
taken w bits i = if is_plain w bits i then w - 1 else w

-- at most n codewords from place i on
unfoldable pub words_from : ℕ → ℕ → List Bool → ℕ → List ℕ
words_from zero w bits i = []
words_from (suc n) w bits i =
    if nat_le (length bits) i then [] else word w bits i ∷ words_from n w bits (i + taken w bits i)

-- all of them: each takes a bit at least
unfoldable pub stuffed : ℕ → List Bool → List ℕ
stuffed w bits = words_from (length bits) w bits 0
