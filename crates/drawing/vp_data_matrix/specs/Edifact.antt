-- EDIFACT encodation: four values of six bits in three codewords (ISO/IEC 16022, 5.2.8).
use Rattle.std.specs.Prelude.{ℕ, ◌+◌, ◌*◌, ◌/◌, ◌%◌, ◌&&◌, nat_le, Bool, List, [], ◌∷◌, ◌++◌}
use Rattle.vp_data_matrix.specs.Ascii.{ascii}

abbrev pub edifact_has : ℕ → Bool
edifact_has byte = nat_le 32 byte && nat_le byte 94

-- the value of a character: its six lower bits
abbrev pub six : ℕ → ℕ
six byte = byte % 64

-- the values of four characters, the highest bits first
abbrev pub four : ℕ → ℕ → ℕ → ℕ → List ℕ
four a b c d = (4 * six a + six b / 16) ∷ (six b % 16 * 16 + six c / 4) ∷ (six c % 4 * 64 + six d) ∷ []

-- the last four values are two or three characters, the unlatch, 31, and zeros; up to two characters that are
-- left stand behind in ASCII. So an unlatch always ends three codewords, where a reader takes the last one or
-- two of a symbol as ASCII; and that is no codeword more than with an unlatch behind all characters
unfoldable pub fours : List ℕ → List ℕ
fours [] = []
fours (a ∷ []) = ascii (a ∷ [])
fours (a ∷ b ∷ []) = four a b 31 0
fours (a ∷ b ∷ c ∷ []) = four a b c 31
fours (a ∷ b ∷ c ∷ d ∷ []) = four a b c 31 ++ ascii (d ∷ [])
fours (a ∷ b ∷ c ∷ d ∷ e ∷ []) = four a b c 31 ++ ascii (d ∷ e ∷ [])
fours (a ∷ b ∷ c ∷ d ∷ e ∷ f ∷ rest) = four a b c d ++ fours (e ∷ f ∷ rest)

-- the latch, 240, and the characters, at least two
unfoldable pub edifact : List ℕ → List ℕ
edifact src = 240 ∷ fours src
