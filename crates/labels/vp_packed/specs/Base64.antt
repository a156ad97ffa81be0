-- Base64 (RFC 4648, 4): signs of six bits, groups of four, padding; the ends of lines are passed over.
use Rattle.std.specs.Prelude.{ℕ, ◌+◌, ◌-◌, ◌*◌, ◌/◌, ◌%◌, ◌==◌, ◌&&◌, ◌||◌, not, nat_le, Bool, true, false, List, [], ◌∷◌, Option, Some, None, is_some, count_by, if◌then◌else◌}
use Prim.Native.Char.{code}
use Rattle.vp_packed.specs.declared.sign.Place.{Place}
use Rattle.vp_packed.specs.declared.sign.Place.TheVariants.{First, Second, Third, Fourth}

-- the six bits of each sign of the alphabet
unfoldable pub value_of : ℕ → Option ℕ
value_of c =
    if nat_le (code "A") c && nat_le c (code "Z") then Some (c - code "A")
    else if nat_le (code "a") c && nat_le c (code "z") then Some (c - code "a" + 26)
    else if nat_le (code "0") c && nat_le c (code "9") then Some (c - code "0" + 52)
    else if c == code "+" then Some 62
    else if c == code "/" then Some 63
    else None

-- CR and LF
abbrev pub is_break : ℕ → Bool
is_break c = c == 13 || c == 10

-- the padding
abbrev pub is_padding : ℕ → Bool
is_padding c = c == code "="

-- all signs are base64's, and behind padding there is padding alone
unfoldable pub are_signs : Bool → List ℕ → Bool
are_signs padded [] = true
are_signs padded (c ∷ rest) =
    if is_break c then are_signs padded rest
    else if is_padding c then are_signs true rest
    else not padded && is_some (value_of c) && are_signs padded rest

-- how many there are, with padding, and how many of them are padding
abbrev pub written : List ℕ → ℕ
written signs = count_by (λ c. not (c == 13) && not (c == 10)) signs

abbrev pub padding : List ℕ → ℕ
padding signs = count_by (λ c. c == code "=") signs

-- they are groups of four, with up to two of padding
unfoldable pub are_fours : List ℕ → Bool
are_fours signs = written signs % 4 == 0 && nat_le (padding signs) 2

-- the values of the signs before the padding
abbrev pub and_value : Option ℕ → List ℕ → List ℕ
and_value None rest = rest
and_value (Some v) rest = v ∷ rest

unfoldable pub values : List ℕ → List ℕ
values [] = []
values (c ∷ rest) = if is_padding c then [] else and_value (value_of c) (values rest)

-- the bytes of values, of which the first one stands at a place of its group, behind another value
unfoldable pub bytes_from : Place → ℕ → List ℕ → List ℕ
bytes_from place last [] = []
bytes_from First last (v ∷ rest) = bytes_from Second v rest
bytes_from Second last (v ∷ rest) = (4 * last + v / 16) ∷ bytes_from Third v rest
bytes_from Third last (v ∷ rest) = (last % 16 * 16 + v / 4) ∷ bytes_from Fourth v rest
bytes_from Fourth last (v ∷ rest) = (last % 4 * 64 + v) ∷ bytes_from First v rest

-- the bytes of groups
abbrev pub bytes_of : List ℕ → List ℕ
bytes_of vs = bytes_from First 0 vs
