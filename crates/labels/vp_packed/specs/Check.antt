-- The check behind the signs: the remainder by x^16 + x^12 + x^5 + 1 (ITU-T V.41), begun at 0, in four hex digits.
use Rattle.std.specs.Prelude.{ℕ, zero, suc, ◌+◌, ◌-◌, ◌*◌, ◌/◌, ◌%◌, ◌&&◌, nat_le, List, [], ◌∷◌, Option, Some, None, bit_xor, if◌then◌else◌}
use Prim.Native.Char.{code}

-- a bit further: where the highest is 1, the polynomial is taken off
unfoldable pub crc_bit : ℕ → ℕ
crc_bit c = bit_xor (c * 2 % 65536) (c / 32768 * 0x1021)

unfoldable pub crc_bits : ℕ → ℕ → ℕ
crc_bits zero c = c
crc_bits (suc n) c = crc_bits n (crc_bit c)

-- behind signs, each from its highest bit down
unfoldable pub crc_behind : ℕ → List ℕ → ℕ
crc_behind c [] = c
crc_behind c (sign ∷ rest) = crc_behind (crc_bits 8 (bit_xor c (sign * 256))) rest

abbrev pub crc : List ℕ → ℕ
crc signs = crc_behind 0 signs

-- a hex digit's value, in either case
unfoldable pub hex_of : ℕ → Option ℕ
hex_of c =
    if nat_le (code "0") c && nat_le c (code "9") then Some (c - code "0")
    else if nat_le (code "A") c && nat_le c (code "F") then Some (c - code "A" + 10)
    else if nat_le (code "a") c && nat_le c (code "f") then Some (c - code "a" + 10)
    else None

abbrev pub four_digits : Option ℕ → Option ℕ → Option ℕ → Option ℕ → Option ℕ
four_digits (Some a) (Some b) (Some c) (Some d) = Some (256 * (16 * a + b) + (16 * c + d))
four_digits _ _ _ _ = None

-- the number of the four digits at the front
abbrev pub check_of : List ℕ → Option ℕ
check_of (a ∷ b ∷ c ∷ d ∷ rest) = four_digits (hex_of a) (hex_of b) (hex_of c) (hex_of d)
check_of _ = None
