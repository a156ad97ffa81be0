-- The mode, and the codewords that stand before the text (ISO/IEC 16023, modes).
use Rattle.std.specs.Prelude.{ℕ, ◌+◌, ◌-◌, ◌*◌, ◌/◌, ◌%◌, ◌^◌, ◌&&◌, nat_le, nat_lt, Bool, true, List, [], ◌∷◌, Option, Some, None, slice_index}
use Rattle.std.specs.List.{list_all}
use Rattle.vp_maxicode.specs.declared.set.CodeSet.TheVariants.{A}
use Rattle.vp_maxicode.specs.declared.mode.Mode.{Mode}
use Rattle.vp_maxicode.specs.declared.mode.Mode.TheVariants.{Structured, Standard, Enhanced, Program}
use Rattle.vp_maxicode.specs.declared.mode.PostalCode.{PostalCode}
use Rattle.vp_maxicode.specs.declared.mode.PostalCode.TheVariants.{Numeric, Alphanumeric}
use Rattle.vp_maxicode.specs.declared.mode.Carrier.{Carrier}
use Rattle.vp_maxicode.specs.declared.mode.Part.{Part}
use Rattle.vp_maxicode.specs.Characters.{within, has, code}

-- a postal code has up to nine digits, or six characters of set A, blanks among them, but no controls
abbrev pub is_letter : ℕ → Bool
is_letter byte = within 32 90 byte && has A byte

abbrev pub is_postal : PostalCode → Bool
is_postal (Numeric number digits) = nat_le 1 digits && (nat_le digits 9 && nat_lt number (10 ^ digits))
is_postal (Alphanumeric letters) = list_all is_letter letters

-- a message says the country and the class of service in three digits each
abbrev pub is_three : ℕ → Bool
is_three number = nat_le number 999

abbrev pub is_carrier : Carrier → Bool
is_carrier carrier = is_three carrier.service && (is_three carrier.country && is_postal carrier.postal)

-- a mode's carrier, if it has one, says what it may
abbrev pub is_mode : Mode → Bool
is_mode (Structured carrier) = is_carrier carrier
is_mode Standard = true
is_mode Enhanced = true
is_mode Program = true

-- the mode's number
abbrev pub postal_mode : PostalCode → ℕ
postal_mode (Numeric number digits) = 2
postal_mode (Alphanumeric letters) = 3

abbrev pub mode_number : Mode → ℕ
mode_number (Structured carrier) = postal_mode carrier.postal
mode_number Standard = 4
mode_number Enhanced = 5
mode_number Program = 6

-- a postal code in 36 bits: a number of 30 bits below its count of digits in six, or six values of six
-- bits, the last one lowest
abbrev pub postal_bits : PostalCode → ℕ
postal_bits (Numeric number digits) = number + 1073741824 * digits
postal_bits (Alphanumeric letters) =
    64 * (64 * (64 * (64 * (64 * code A (slice_index letters 0) + code A (slice_index letters 1))
    + code A (slice_index letters 2)) + code A (slice_index letters 3)) + code A (slice_index letters 4))
    + code A (slice_index letters 5)

-- the 60 bits of the primary message: the mode lowest, the postal code, the country and the class of service
unfoldable pub carrier_bits : Carrier → ℕ
carrier_bits c = postal_mode c.postal + 16 * postal_bits c.postal + 1099511627776 * c.country
    + 1125899906842624 * c.service

-- a number in ten codewords, the lowest first
abbrev pub ten : ℕ → List ℕ
ten n = n % 64 ∷ n / 64 % 64 ∷ n / 4096 % 64 ∷ n / 262144 % 64 ∷ n / 16777216 % 64 ∷ n / 1073741824 % 64
    ∷ n / 68719476736 % 64 ∷ n / 4398046511104 % 64 ∷ n / 281474976710656 % 64
    ∷ n / 18014398509481984 % 64 ∷ []

-- how many data codewords there are behind the primary message of a carrier, or behind the mode
abbrev pub room : Mode → ℕ
room (Structured carrier) = 84
room Standard = 93
room Enhanced = 77
room Program = 93

-- a symbol is one of two to eight that are joined
abbrev pub is_part : Part → Bool
is_part part =
    nat_le 1 part.position && (nat_le part.position part.of && (nat_le 2 part.of && nat_le part.of 8))

-- what says so: a pad, and its position and how many there are, each less one
abbrev pub part_words : Option Part → List ℕ
part_words None = []
part_words (Some part) = 33 ∷ (8 * (part.position - 1) + (part.of - 1)) ∷ []
