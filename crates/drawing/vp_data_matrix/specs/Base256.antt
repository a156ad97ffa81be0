-- Base 256 encodation (ISO/IEC 16022, 5.2.9).
use Rattle.std.specs.Prelude.{ℕ, ◌+◌, ◌*◌, ◌/◌, ◌%◌, nat_lt, length, List, [], ◌∷◌, ◌++◌, if◌then◌else◌}

-- a codeword at position p, the first codeword's being 1 (annex B.2)
abbrev pub randomised : ℕ → ℕ → ℕ
randomised p byte = (byte + (149 * p % 255 + 1)) % 256

-- codewords of which the first is at position p
abbrev pub randomised_from : ℕ → List ℕ → List ℕ
randomised_from p [] = []
randomised_from p (byte ∷ rest) = randomised p byte ∷ randomised_from (p + 1) rest

-- how many bytes follow
abbrev pub length_field : ℕ → List ℕ
length_field n = if nat_lt n 250 then n ∷ [] else (249 + n / 250) ∷ (n % 250) ∷ []

-- bytes behind so many codewords
unfoldable pub base_256 : ℕ → List ℕ → List ℕ
base_256 before src = 231 ∷ randomised_from (before + 2) (length_field (length src) ++ src)
