-- ASCII encodation (ISO/IEC 16022, 5.2.3).
use Rattle.std.specs.Prelude.{ℕ, ◌+◌, ◌-◌, ◌*◌, ◌&&◌, nat_lt, nat_le, Bool, List, [], ◌∷◌, ◌++◌, if◌then◌else◌}

abbrev pub digit : ℕ → Bool
digit byte = nat_le 48 byte && nat_le byte 57

-- a byte by itself: below 128 it is the next number; another one stands behind an upper shift, 235
abbrev pub single : ℕ → List ℕ
single byte = if nat_lt byte 128 then (byte + 1) ∷ [] else 235 ∷ (byte - 127) ∷ []

-- two digits
abbrev pub digit_pair : ℕ → ℕ → ℕ
digit_pair a b = 130 + 10 * (a - 48) + (b - 48)

-- two digits that follow one another are one codeword
unfoldable pub ascii : List ℕ → List ℕ
ascii [] = []
ascii (a ∷ []) = single a
ascii (a ∷ b ∷ rest) = if digit a && digit b then digit_pair a b ∷ ascii rest
    else single a ++ ascii (b ∷ rest)
