-- The characters of the modes and their values (ISO/IEC 24778, character encodation).
use Rattle.std.specs.Prelude.{ℕ, ◌+◌, ◌-◌, ◌*◌, ◌==◌, ◌&&◌, ◌||◌, nat_le, not, Bool, true, false, Option, Some, None, is_none, if◌then◌else◌}
use Rattle.vp_aztec.specs.declared.mode.Mode.{Mode}
use Rattle.vp_aztec.specs.declared.mode.Mode.TheVariants.{Upper, Lower, Mixed, Punct, Digit}

abbrev pub capital : ℕ → Bool
capital byte = nat_le 65 byte && nat_le byte 90

abbrev pub small : ℕ → Bool
small byte = nat_le 97 byte && nat_le byte 122

abbrev pub digit : ℕ → Bool
digit byte = nat_le 48 byte && nat_le byte 57

-- the bytes that some mode has; each other one is written as a byte
abbrev pub is_text : ℕ → Bool
is_text byte = nat_le 1 byte && nat_le byte 13 || nat_le 27 byte && nat_le byte 127

-- the bits of a value
abbrev pub width : Mode → ℕ
width Upper = 5
width Lower = 5
width Mixed = 5
width Punct = 5
width Digit = 4

-- the value of a character in mixed
unfoldable pub mixed_value : ℕ → Option ℕ
mixed_value byte =
    if nat_le 1 byte && nat_le byte 13 then Some (byte + 1)
    else if nat_le 27 byte && nat_le byte 31 then Some (byte - 12)
    else if byte == 64 then Some 20
    else if byte == 92 then Some 21
    else if nat_le 94 byte && nat_le byte 96 then Some (byte - 72)
    else if byte == 124 then Some 25
    else if nat_le 126 byte && nat_le byte 127 then Some (byte - 100)
    else None

-- in the mode of digits
unfoldable pub digit_value : ℕ → Option ℕ
digit_value byte =
    if digit byte then Some (byte - 46)
    else if byte == 44 then Some 12
    else if byte == 46 then Some 13
    else None

-- in punctuation
unfoldable pub mark_value : ℕ → Option ℕ
mark_value byte =
    if byte == 13 then Some 1
    else if nat_le 33 byte && nat_le byte 47 then Some (byte - 27)
    else if nat_le 58 byte && nat_le byte 63 then Some (byte - 37)
    else if byte == 91 then Some 27
    else if byte == 93 then Some 28
    else if byte == 123 then Some 29
    else if byte == 125 then Some 30
    else None

abbrev pub is_mark : ℕ → Bool
is_mark byte = not (is_none (mark_value byte))

-- in a mode that has it
unfoldable pub value_in : Mode → ℕ → Option ℕ
value_in Upper byte = if byte == 32 then Some 1 else if capital byte then Some (byte - 63) else None
value_in Lower byte = if byte == 32 then Some 1 else if small byte then Some (byte - 95) else None
value_in Mixed byte = if byte == 32 then Some 1 else mixed_value byte
value_in Punct byte = mark_value byte
value_in Digit byte = if byte == 32 then Some 1 else digit_value byte

-- two characters that are one of punctuation: a new line, and a full stop, a comma or a colon with a blank
unfoldable pub pair_value : ℕ → ℕ → Option ℕ
pair_value a b =
    if b == 10 && a == 13 then Some 2
    else if b == 32 && a == 46 then Some 3
    else if b == 32 && a == 44 then Some 4
    else if b == 32 && a == 58 then Some 5
    else None

-- the mode of a character that punctuation hasn't
abbrev pub home : ℕ → Mode
home byte =
    if capital byte || byte == 32 then Upper
    else if small byte then Lower
    else if digit byte then Digit
    else Mixed

-- the latch from a mode to another, by its bits and as a number: one value, or more where others are between
abbrev pub latch : Mode → Mode → ℕ × ℕ
latch Upper Lower = (5, 28)
latch Upper Mixed = (5, 29)
latch Upper Punct = (10, 29 * 32 + 30)
latch Upper Digit = (5, 30)
latch Lower Upper = (9, 30 * 16 + 14)
latch Lower Mixed = (5, 29)
latch Lower Punct = (10, 29 * 32 + 30)
latch Lower Digit = (5, 30)
latch Mixed Upper = (5, 29)
latch Mixed Lower = (5, 28)
latch Mixed Punct = (5, 30)
latch Mixed Digit = (10, 29 * 32 + 30)
latch Punct Upper = (5, 31)
latch Punct Lower = (10, 31 * 32 + 28)
latch Punct Mixed = (10, 31 * 32 + 29)
latch Punct Digit = (10, 31 * 32 + 30)
latch Digit Upper = (4, 14)
latch Digit Lower = (9, 14 * 32 + 28)
latch Digit Mixed = (9, 14 * 32 + 29)
latch Digit Punct = (14, (14 * 32 + 29) * 32 + 30)
latch mode same = (0, 0)

-- lower and digit have a shift to upper for one character
abbrev pub can_shift : Mode → Bool
can_shift Upper = false
can_shift Lower = true
can_shift Mixed = false
can_shift Punct = false
can_shift Digit = true

abbrev pub shift : Mode → ℕ × ℕ
shift Digit = (4, 15)
shift mode = (5, 28)
