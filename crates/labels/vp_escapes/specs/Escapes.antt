-- The escapes in the data of ^BX (ZPL II, ^BX, "Field Data"): a sign begins each.
use Rattle.std.specs.Prelude.{ℕ, zero, suc, ◌+◌, ◌-◌, ◌*◌, ◌==◌, nat_le, Bool, false, not, ◌&&◌, Option, Some, None, List, [], ◌∷◌, drop, if◌then◌else◌}
use Prim.Native.Char.{code}
use Rattle.vp_escapes.specs.declared.token.Token.{Token}

-- a byte, and how many bytes behind the first one spell it
abbrev pub spelled : ℕ → ℕ → Token
spelled byte behind = record { byte = byte; behind = behind }

-- a byte that stands for itself
abbrev pub plain : ℕ → Token
plain byte = spelled byte 0

abbrev pub is_digit : ℕ → Bool
is_digit c = nat_le (code "0") c && nat_le c (code "9")

abbrev pub are_digits : ℕ → ℕ → ℕ → Bool
are_digits a b c = is_digit a && is_digit b && is_digit c

-- the number of three digits
abbrev pub number_of : ℕ → ℕ → ℕ → ℕ
number_of a b c = 100 * (a - code "0") + 10 * (b - code "0") + (c - code "0")

-- the value of the three digits at the front, 0 to 255
abbrev pub value_of : List ℕ → Option ℕ
value_of (a ∷ b ∷ c ∷ rest) =
    if are_digits a b c && nat_le (number_of a b c) 255 then Some (number_of a b c) else None
value_of _ = None

-- the byte that three digits follow behind a sign
abbrev pub by_value : ℕ
by_value = code "d"

-- d and such digits are the byte of this value; without them the sign stands for itself
abbrev pub numbered : ℕ → Option ℕ → Token
numbered sign (Some value) = spelled value 4
numbered sign None = plain sign

-- @, A to Z, [, \, ], ^: each stands for the control character 40 hex below it, 00 to 1E hex
abbrev pub is_control : ℕ → Bool
is_control c = nat_le (code "@") c && nat_le c (code "^")

-- the byte that is FNC1 behind a sign
abbrev pub fnc1 : ℕ
fnc1 = code "1"

-- the separator of GS1 element strings, 1D hex
abbrev pub separator : ℕ
separator = 29

-- a sign and what follows it, by the first rule that fits: the sign again, FNC1, a control character, a
-- byte's value; any other sign stands for itself
abbrev pub escape : ℕ → List ℕ → Token
escape sign [] = plain sign
escape sign (c ∷ rest) =
    if c == sign then spelled sign 1
    else if c == fnc1 then spelled separator 1
    else if is_control c then spelled (c - code "@") 1
    else if c == by_value then numbered sign (value_of rest)
    else plain sign

-- a byte and what follows it: any but the sign stands for itself
abbrev pub token : ℕ → ℕ → List ℕ → Token
token sign c rest = if c == sign then escape sign rest else plain c

-- the bytes that data stand for, behind those at their front that spell an earlier one
abbrev pub read : ℕ → ℕ → List ℕ → List ℕ
read sign behind [] = []
read sign zero (c ∷ rest) = (token sign c rest).byte ∷ read sign (token sign c rest).behind rest
read sign (suc behind) (c ∷ rest) = read sign behind rest

-- FNC1 at the very front says that the data are GS1 element strings; two signs are the sign, also if it is 1
abbrev pub is_gs1 : ℕ → List ℕ → Bool
is_gs1 sign (first ∷ c ∷ rest) = first == sign && c == fnc1 && not (c == sign)
is_gs1 sign _ = false

-- the bytes that the data stand for: FNC1 at the very front gives none
abbrev pub unescaped : ℕ → List ℕ → List ℕ
unescaped sign bytes = read sign 0 (if is_gs1 sign bytes then drop 2 bytes else bytes)
