-- The modules of a finished symbol of version v, by cases on the place (ISO/IEC 18004, 6.3 and 7.7 to 7.10).
use Rattle.std.specs.Prelude.{ℕ, ◌+◌, ◌-◌, ◌*◌, ◌/◌, ◌%◌, ◌==◌, ◌&&◌, ◌||◌, not, nat_lt, nat_le, Bool, true, false, max, if◌then◌else◌}
use Rattle.std.specs.Int.{bit_at}
use Rattle.vp_qr.specs.Places.{size, last_centre, middle_centre, near, corner, version_area, alignment, reserved}

-- how far two numbers are apart
abbrev pub apart : ℕ → ℕ → ℕ
apart a b = (a - b) + (b - a)

-- the square ring round a centre on which a module lies
abbrev pub ring : ℕ → ℕ → ℕ → ℕ → ℕ
ring ci cj i j = max (apart ci i) (apart cj j)

-- a finder or its separator
abbrev pub finder : ℕ → ℕ → ℕ → Bool
finder s i j = nat_lt i 8 && (nat_lt j 8 || nat_le (s - 8) j) || nat_le (s - 8) i && nat_lt j 8

-- the finder's centre on this side
abbrev pub finder_centre : ℕ → ℕ → ℕ
finder_centre s i = if nat_lt i 8 then 3 else s - 4

unfoldable pub finder_dark : ℕ → ℕ → ℕ → Bool
finder_dark s i j =
    let r = ring (finder_centre s i) (finder_centre s j) i j in
    nat_lt r 2 || r == 3

-- the centre of an alignment pattern near this row or column
abbrev pub alignment_centre : ℕ → ℕ → ℕ
alignment_centre v i = if near 6 i then 6 else if near (middle_centre v) i && nat_le 7 v
    then middle_centre v else last_centre v

unfoldable pub alignment_dark : ℕ → ℕ → ℕ → Bool
alignment_dark v i j = not (ring (alignment_centre v i) (alignment_centre v j) i j == 1)

-- which bit of the format, or of the version, stands on a module (7.9 and 7.10)
abbrev pub format_bit : ℕ → ℕ → ℕ → ℕ
format_bit s i j =
    if i == 8 then (if nat_lt j 6 then 14 - j else if j == 7 then 8 else if j == 8 then 7 else s - 1 - j)
    else (if nat_lt i 6 then i else if i == 7 then 6 else i + 15 - s)

abbrev pub version_bit : ℕ → ℕ → ℕ → ℕ
version_bit s i j = if nat_lt i 6 then 3 * i + (j - (s - 11)) else 3 * j + (i - (s - 11))

-- the masks' formulas (table 10)
abbrev pub formula : ℕ → ℕ → ℕ → ℕ
formula m i j =
    if m == 0 then (i + j) % 2
    else if m == 1 then i % 2
    else if m == 2 then j % 3
    else if m == 3 then (i + j) % 3
    else if m == 4 then (i / 2 + j / 3) % 2
    else if m == 5 then i * j % 2 + i * j % 3
    else if m == 6 then (i * j % 2 + i * j % 3) % 2
    else ((i + j) % 2 + i * j % 3) % 2

abbrev pub differ : Bool → Bool → Bool
differ true b = not b
differ false b = b

-- a module under mask m, with the bits of the codes of format and version (7.9 and 7.10) where they stand;
-- the data modules come unmasked
unfoldable pub module_at : ℕ → ℕ → ℕ → ℕ → (ℕ → ℕ → Bool) → ℕ → ℕ → Bool
module_at v format version_code m data_at i j =
    let s = size v in
    if finder s i j then finder_dark s i j
    else if i == 6 then j % 2 == 0
    else if j == 6 then i % 2 == 0
    else if alignment v i j then alignment_dark v i j
    else if version_area v i j then bit_at version_code (version_bit s i j) == 1
    else if i == s - 8 && j == 8 then true
    else if corner s i j then bit_at format (format_bit s i j) == 1
    else differ (data_at i j) (formula m i j == 0)

-- a bit of the format stands on this module
unfoldable pub format_here : ℕ → ℕ → ℕ → Bool
format_here v i j =
    let s = size v in
    corner s i j && not (finder s i j || i == 6 || j == 6 || alignment v i j || version_area v i j
    || i == s - 8 && j == 8)

-- the dark modules where neither data nor format stand
unfoldable pub pattern_dark : ℕ → ℕ → ℕ → ℕ → Bool
pattern_dark v version_code i j = reserved v i j && module_at v 0 version_code 0 (λ i j. false) i j
