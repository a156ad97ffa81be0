-- Strings of bits, the first bit first.
use Rattle.std.specs.Prelude.{ℕ, zero, suc, ◌+◌, ◌-◌, ◌*◌, ◌%◌, ◌==◌, Bool, false, min, length, replicate, List, [], ◌∷◌, ◌++◌, if◌then◌else◌}
use Rattle.std.specs.Int.{bit_at}

-- the n lowest bits of a number, the highest of them first
unfoldable pub bits : ℕ → ℕ → List Bool
bits zero value = []
bits (suc n) value = (bit_at value n == 1) ∷ bits n value

-- the number whose bits, behind those of a number, are these
unfoldable pub number_behind : ℕ → List Bool → ℕ
number_behind n [] = n
number_behind n (b ∷ bs) = number_behind (2 * n + (if b then 1 else 0)) bs

-- the bytes of a string, eight bits to each; bits behind the last whole byte are in none
unfoldable pub bytes_of : List Bool → List ℕ
bytes_of (a ∷ b ∷ c ∷ d ∷ e ∷ f ∷ g ∷ h ∷ rest) = number_behind 0 (a ∷ b ∷ c ∷ d ∷ e ∷ f ∷ g ∷ h ∷ [])
    ∷ bytes_of rest
bytes_of short = []

-- a message in a symbol that has room for some more bits: up to four zeros end it (7.4.9)
unfoldable pub terminated : ℕ → List Bool → List Bool
terminated room message = message ++ replicate (min 4 (room - length message)) false

-- zeros up to a whole byte (7.4.10)
unfoldable pub filled : List Bool → List Bool
filled string = string ++ replicate ((8 - length string % 8) % 8) false

-- pad codeword number k: 236 and 17 in turn (7.4.10)
abbrev pub pad : ℕ → ℕ
pad k = if k % 2 == 0 then 236 else 17

-- the first n pad codewords
unfoldable pub pads : ℕ → List ℕ
pads zero = []
pads (suc n) = pads n ++ pad n ∷ []

-- the data codewords of a message, in a symbol that has this many
unfoldable pub padded : ℕ → List Bool → List ℕ
padded capacity message =
    let bytes = bytes_of (filled (terminated (8 * capacity) message)) in
    bytes ++ pads (capacity - length bytes)
