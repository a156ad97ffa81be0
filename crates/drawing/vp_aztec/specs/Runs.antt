-- Runs of bytes behind a binary shift (ISO/IEC 24778, character encodation).
use Rattle.std.specs.Prelude.{ℕ, zero, suc, ◌+◌, ◌-◌, nat_le, List, [], ◌∷◌, take, map, if◌then◌else◌}
use Rattle.std.specs.List.{list_all}
use Rattle.vp_aztec.specs.Characters.{is_text}

-- how long a run is: to where five characters follow, or where all that are left are characters, and at most
-- n bytes
unfoldable pub run : ℕ → List ℕ → ℕ
run zero src = 0
run (suc n) [] = 0
run (suc n) (byte ∷ rest) = if list_all is_text (take 5 (byte ∷ rest)) then 0 else 1 + run n rest

-- the most bytes whose number can be said
abbrev pub longest : ℕ
longest = 2078

-- how many there are: in five bits, or behind five zeros in eleven bits from 31 on
abbrev pub count : ℕ → ℕ × ℕ
count n = if nat_le n 31 then (5, n) else (16, n - 31)

-- each byte in eight bits
abbrev pub byte_codes : List ℕ → List (ℕ × ℕ)
byte_codes src = map (λ byte. (8, byte)) src
