-- Numeric compaction (ISO/IEC 15438, Numeric Compaction mode).
use Rattle.std.specs.Prelude.{ℕ, zero, suc, ◌+◌, ◌*◌, ◌/◌, ◌%◌, length, List, [], ◌∷◌, ◌++◌, take, drop}
use Rattle.vp_pdf417.specs.Places.{base_900}

-- a number with the digits of bytes behind it; a digit is the four lowest bits of its byte
abbrev pub number : ℕ → List ℕ → ℕ
number t [] = t
number t (digit ∷ rest) = number (10 * t + digit % 16) rest

-- up to 44 digits: the number that they make behind a 1
unfoldable pub group : List ℕ → List ℕ
group digits = base_900 (length digits / 3 + 1) (number 1 digits)

-- n groups
abbrev pub groups : ℕ → List ℕ → List ℕ
groups zero src = []
groups (suc n) src = group (take 44 src) ++ groups n (drop 44 src)

-- the latch, 902, and all groups
unfoldable pub numeric : List ℕ → List ℕ
numeric src = 902 ∷ groups ((length src + 43) / 44) src
