-- UTF-16 (The Unicode Standard 15, 3.9, D91; 3.10, D97 and D98).
use Rattle.std.specs.Prelude.{ℕ, ◌+◌, ◌-◌, ◌*◌, ◌/◌, ◌%◌, ◌&&◌, ◌||◌, nat_le, Bool, false, Option, Some, None, List, [], ◌∷◌, ◌++◌, if◌then◌else◌}
use Rattle.vp_code_tables.specs.declared.utf16.ByteOrder.{ByteOrder}
use Rattle.vp_code_tables.specs.declared.utf16.ByteOrder.TheVariants.{HighFirst, LowFirst}
use Rattle.vp_code_tables.specs.Utf8.{within}

-- two bytes as a code unit
abbrev pub code_unit : ByteOrder → ℕ → ℕ → ℕ
code_unit HighFirst a b = 256 * a + b
code_unit LowFirst a b = 256 * b + a

-- high and low surrogates (D71 to D74)
unfoldable pub is_high : ℕ → Bool
is_high unit = within 0xd800 0xdbff unit

unfoldable pub is_low : ℕ → Bool
is_low unit = within 0xdc00 0xdfff unit

abbrev pub low_follows : ByteOrder → List ℕ → Bool
low_follows order (c ∷ d ∷ _) = is_low (code_unit order c d)
low_follows order _ = false

-- how many bytes the unit has that begins with these: two, four for a surrogate pair, one at the very end
abbrev pub utf16_len : ByteOrder → List ℕ → ℕ
utf16_len order (a ∷ b ∷ more) = if is_high (code_unit order a b) && low_follows order more then 4 else 2
utf16_len order _ = 1

-- the scalar value of a surrogate pair (table 3-5)
abbrev pub pair_value : ℕ → ℕ → ℕ
pair_value high low = 0x10000 + (high % 1024 * 1024 + low % 1024)

-- the character of a unit's bytes; a surrogate alone is none
abbrev pub utf16_character : ByteOrder → List ℕ → Option ℕ
utf16_character order (a ∷ b ∷ []) =
    if is_high (code_unit order a b) || is_low (code_unit order a b) then None
    else Some (code_unit order a b)
utf16_character order (a ∷ b ∷ c ∷ d ∷ []) =
    Some (pair_value (code_unit order a b) (code_unit order c d))
utf16_character order _ = None

-- a code unit as two bytes
abbrev pub unit_bytes : ByteOrder → ℕ → List ℕ
unit_bytes HighFirst unit = unit / 256 ∷ unit % 256 ∷ []
unit_bytes LowFirst unit = unit % 256 ∷ unit / 256 ∷ []

-- a scalar value in UTF-16 (table 3-5)
unfoldable pub utf16 : ByteOrder → ℕ → List ℕ
utf16 order value =
    if nat_le value 0xffff then unit_bytes order value
    else unit_bytes order (0xd800 + (value - 0x10000) / 1024)
    ++ unit_bytes order (0xdc00 + (value - 0x10000) % 1024)
