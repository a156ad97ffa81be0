-- The code sets and their characters (ISO/IEC 16023, annex A).
use Rattle.std.specs.Prelude.{ℕ, ◌+◌, ◌-◌, ◌==◌, ◌&&◌, nat_le, not, Bool, Option, Some, None, is_none, unwrap_or, if◌then◌else◌}
use Rattle.vp_maxicode.specs.declared.set.CodeSet.{CodeSet}
use Rattle.vp_maxicode.specs.declared.set.CodeSet.TheVariants.{A, B, C, D, E}

-- a byte from one to another
abbrev pub within : ℕ → ℕ → ℕ → Bool
within low high byte = nat_le low byte && nat_le byte high

-- the value of a byte in set A: capital letters, digits, and marks
unfoldable pub value_a : ℕ → Option ℕ
value_a byte =
    if byte == 13 then Some 0
    else if within 28 30 byte then Some byte
    else if byte == 32 then Some 32
    else if within 34 58 byte then Some byte
    else if within 65 90 byte then Some (byte - 64)
    else None

-- in set B: small letters, and other marks
unfoldable pub value_b : ℕ → Option ℕ
value_b byte =
    if within 28 30 byte then Some byte
    else if byte == 32 then Some 47
    else if byte == 33 then Some 53
    else if byte == 44 then Some 48
    else if within 46 47 byte then Some (byte + 3)
    else if byte == 58 then Some 51
    else if within 59 63 byte then Some (byte - 22)
    else if byte == 64 then Some 52
    else if within 91 95 byte then Some (byte - 49)
    else if within 96 122 byte then Some (byte - 96)
    else if byte == 123 then Some 32
    else if byte == 124 then Some 54
    else if within 125 127 byte then Some (byte - 91)
    else None

-- in set C: capital letters with marks
unfoldable pub value_c : ℕ → Option ℕ
value_c byte =
    if within 28 30 byte then Some byte
    else if byte == 32 then Some 59
    else if within 128 137 byte then Some (byte - 80)
    else if byte == 170 then Some 37
    else if byte == 172 then Some 38
    else if within 177 179 byte then Some (byte - 138)
    else if byte == 181 then Some 42
    else if within 185 186 byte then Some (byte - 142)
    else if within 188 190 byte then Some (byte - 143)
    else if within 192 218 byte then Some (byte - 192)
    else if within 219 223 byte then Some (byte - 187)
    else None

-- in set D: small letters with marks
unfoldable pub value_d : ℕ → Option ℕ
value_d byte =
    if within 28 30 byte then Some byte
    else if byte == 32 then Some 59
    else if within 138 148 byte then Some (byte - 91)
    else if byte == 161 then Some 37
    else if byte == 168 then Some 38
    else if byte == 171 then Some 39
    else if within 175 176 byte then Some (byte - 135)
    else if byte == 180 then Some 42
    else if within 183 184 byte then Some (byte - 140)
    else if byte == 187 then Some 45
    else if byte == 191 then Some 46
    else if within 224 250 byte then Some (byte - 224)
    else if within 251 255 byte then Some (byte - 219)
    else None

-- in set E: controls and signs
unfoldable pub value_e : ℕ → Option ℕ
value_e byte =
    if within 0 26 byte then Some byte
    else if byte == 27 then Some 30
    else if within 28 31 byte then Some (byte + 4)
    else if byte == 32 then Some 59
    else if within 149 158 byte then Some (byte - 101)
    else if within 159 160 byte then Some (byte - 123)
    else if within 162 167 byte then Some (byte - 124)
    else if byte == 169 then Some 44
    else if within 173 174 byte then Some (byte - 128)
    else if byte == 182 then Some 47
    else None

abbrev pub value_in : CodeSet → ℕ → Option ℕ
value_in A byte = value_a byte
value_in B byte = value_b byte
value_in C byte = value_c byte
value_in D byte = value_d byte
value_in E byte = value_e byte

-- a set has a byte
abbrev pub has : CodeSet → ℕ → Bool
has set byte = not (is_none (value_in set byte))

-- the value of a byte that a set has
abbrev pub code : CodeSet → ℕ → ℕ
code set byte = unwrap_or (value_in set byte) 0

-- the first set that has a byte: each byte is in one
unfoldable pub home : ℕ → CodeSet
home byte =
    if has A byte then A
    else if has B byte then B
    else if has C byte then C
    else if has D byte then D
    else E

-- a set has a byte that the other of A and B hasn't
abbrev pub only_a : ℕ → Bool
only_a byte = has A byte && not (has B byte)

abbrev pub only_b : ℕ → Bool
only_b byte = has B byte && not (has A byte)

abbrev pub is_digit : ℕ → Bool
is_digit byte = within 48 57 byte
