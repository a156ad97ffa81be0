-- Rows in hexadecimal digits (technical note 5005, 3.2: BITMAP).
use Rattle.std.specs.Prelude.{ℕ, zero, suc, ◌+◌, ◌-◌, ◌*◌, ◌/◌, ◌&&◌, ◌||◌, nat_le, Bool, List, [], ◌∷◌, ◌++◌, slice_index, if◌then◌else◌}
use Rattle.std.specs.List.{prefix_len}

abbrev pub between : ℕ → ℕ → ℕ → Bool
between from to b = nat_le from b && nat_le b to

-- 0 to 9, A to F, a to f
abbrev pub hex_digit : ℕ → Bool
hex_digit b = between 48 57 b || (between 65 70 b || between 97 102 b)

-- what a digit counts
abbrev pub nibble : ℕ → ℕ
nibble b = if between 48 57 b then b - 48 else if between 65 70 b then b - 65 + 10 else b - 97 + 10

-- a row of dots in whole bytes
abbrev pub row_bytes : ℕ → ℕ
row_bytes width = (width + 7) / 8

-- a line begins with two digits for each byte; what stands behind is passed
unfoldable pub is_row : ℕ → List ℕ → Bool
is_row bytes line = nat_le (2 * bytes) (prefix_len hex_digit line)

-- the bytes that its digits tell
abbrev pub row_of : ℕ → List ℕ → List ℕ
row_of zero line = []
row_of (suc n) line =
    row_of n line ++ (16 * nibble (slice_index line (2 * n)) + nibble (slice_index line (2 * n + 1))) ∷ []
