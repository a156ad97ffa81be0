-- Which modules of a symbol of version v hold no data (ISO/IEC 18004, 6.3).
use Rattle.std.specs.Prelude.{ℕ, ◌+◌, ◌-◌, ◌*◌, ◌==◌, ◌&&◌, ◌||◌, nat_lt, nat_le, Bool}

-- modules in a row
abbrev pub size : ℕ → ℕ
size v = 17 + 4 * v

-- the greatest centre of an alignment pattern, and the one in the middle from version 7 on (annex E)
abbrev pub last_centre : ℕ → ℕ
last_centre v = 10 + 4 * v

abbrev pub middle_centre : ℕ → ℕ
middle_centre v = 8 + 2 * v

-- within two of a centre
abbrev pub near : ℕ → ℕ → Bool
near c i = nat_le c (i + 2) && nat_le i (c + 2)

-- a finder with its separator and the format beside it
abbrev pub corner : ℕ → ℕ → ℕ → Bool
corner s i j = nat_lt i 9 && (nat_lt j 9 || nat_le (s - 8) j) || nat_le (s - 8) i && nat_lt j 9

-- the version, from version 7 on
abbrev pub version_area : ℕ → ℕ → ℕ → Bool
version_area v i j =
    let s = size v in
    nat_le 7 v && (nat_lt i 6 && nat_le (s - 11) j && nat_lt j (s - 8) || nat_lt j 6 && nat_le (s - 11) i
    && nat_lt i (s - 8))

-- an alignment pattern: at all pairs of centres but those on a finder
abbrev pub alignment : ℕ → ℕ → ℕ → Bool
alignment v i j =
    let last = last_centre v in
    let middle = middle_centre v in
    nat_le 2 v && near last i && near last j
    || nat_le 7 v && (near middle i && (near 6 j || near middle j || near last j) || near middle j
    && (near 6 i || near last i))

unfoldable pub reserved : ℕ → ℕ → ℕ → Bool
reserved v i j = corner (size v) i j || i == 6 || j == 6 || alignment v i j || version_area v i j
