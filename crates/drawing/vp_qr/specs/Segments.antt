-- The one segment of a symbol: its mode and its bits (ISO/IEC 18004, 7.3 and 7.4).
use Rattle.std.specs.Prelude.{ℕ, ◌+◌, ◌-◌, ◌*◌, ◌==◌, ◌&&◌, nat_lt, nat_le, Bool, true, length, List, [], ◌∷◌, ◌++◌, if◌then◌else◌, codes}
use Rattle.std.specs.List.{list_all, position_or_len}
use Rattle.vp_qr.specs.declared.segment.Mode.{Mode}
use Rattle.vp_qr.specs.declared.segment.Mode.TheVariants.{Auto, Digits, Alnum, Bytes}
use Rattle.vp_qr.specs.declared.segment.Kind.{Kind}
use Rattle.vp_qr.specs.declared.segment.Kind.TheVariants.{Numeric, Alphanumeric, Byte}
use Rattle.vp_qr.specs.Strings.{bits}

-- the characters of the alphanumeric mode, in the order of their values 0 to 44
abbrev pub alphabet : List ℕ
alphabet = codes "0123456789ABCDEFGHIJKLMNOPQRSTUVWXYZ $%*+-./:"

-- the value of an alphanumeric character, 45 for any other byte
unfoldable pub alnum_value : ℕ → ℕ
alnum_value byte = position_or_len (λ c. c == byte) alphabet

-- the value of a digit
abbrev pub digit_value : ℕ → ℕ
digit_value byte = byte - 48

-- the bytes that a mode has
abbrev pub has : Kind → ℕ → Bool
has Numeric byte = nat_le 48 byte && nat_le byte 57
has Alphanumeric byte = nat_lt (alnum_value byte) 45
has Byte byte = true

-- the mode that is asked for; Auto is digits where all are, else alphanumeric, else bytes
abbrev pub kind_of : Mode → List ℕ → Kind
kind_of Auto src = if list_all (has Numeric) src then Numeric else if list_all (has Alphanumeric) src
    then Alphanumeric else Byte
kind_of Digits src = Numeric
kind_of Alnum src = Alphanumeric
kind_of Bytes src = Byte

-- the four bits that name a mode (table 2)
abbrev pub indicator : Kind → ℕ
indicator Numeric = 1
indicator Alphanumeric = 2
indicator Byte = 4

-- how many bits count the bytes, in versions 1 to 9 and in version 10 (table 3)
abbrev pub count_bits : Kind → ℕ → ℕ
count_bits Numeric version = if nat_lt version 10 then 10 else 12
count_bits Alphanumeric version = if nat_lt version 10 then 9 else 11
count_bits Byte version = if nat_lt version 10 then 8 else 16

-- the number of three digits, or of two
abbrev pub three_digits : ℕ → ℕ → ℕ → ℕ
three_digits a b c = 100 * digit_value a + 10 * digit_value b + digit_value c

abbrev pub two_digits : ℕ → ℕ → ℕ
two_digits a b = 10 * digit_value a + digit_value b

-- the number of two characters
abbrev pub pair_value : ℕ → ℕ → ℕ
pair_value a b = 45 * alnum_value a + alnum_value b

-- digits by three in ten bits; two that are left in seven, one in four (7.4.3)
unfoldable pub numeric_bits : List ℕ → List Bool
numeric_bits (a ∷ b ∷ c ∷ rest) = bits 10 (three_digits a b c) ++ numeric_bits rest
numeric_bits (a ∷ b ∷ []) = bits 7 (two_digits a b)
numeric_bits (a ∷ []) = bits 4 (digit_value a)
numeric_bits [] = []

-- characters by two in eleven bits; one that is left in six (7.4.4)
unfoldable pub alphanumeric_bits : List ℕ → List Bool
alphanumeric_bits (a ∷ b ∷ rest) = bits 11 (pair_value a b) ++ alphanumeric_bits rest
alphanumeric_bits (a ∷ []) = bits 6 (alnum_value a)
alphanumeric_bits [] = []

-- bytes in eight bits each (7.4.5)
unfoldable pub byte_bits : List ℕ → List Bool
byte_bits [] = []
byte_bits (a ∷ rest) = bits 8 a ++ byte_bits rest

abbrev pub data_bits : Kind → List ℕ → List Bool
data_bits Numeric src = numeric_bits src
data_bits Alphanumeric src = alphanumeric_bits src
data_bits Byte src = byte_bits src

-- mode, count and data
unfoldable pub message : Kind → ℕ → List ℕ → List Bool
message kind version src = bits 4 (indicator kind) ++ bits (count_bits kind version) (length src)
    ++ data_bits kind src
