-- How a command spells its parameters and its data (ZPL II, "Basic ZPL
-- exercises": format, control and parameter).
use Rattle.std.specs.Prelude.{ℕ, ◌+◌, ◌*◌, ◌-◌, ◌==◌, Bool, true, false, ◌&&◌, ◌||◌, Option, Some, None, List, [], ◌∷◌, ◌++◌, length, take, map, nat_lt, nat_le, min, if◌then◌else◌}
use Prim.Native.Char.{code}

-- ^ and ~
abbrev pub is_sign : ℕ → Bool
is_sign c = c == code "^" || c == code "~"

abbrev pub is_comma : ℕ → Bool
is_comma c = c == code ","

abbrev pub is_blank : ℕ → Bool
is_blank c = c == 0x20

abbrev pub is_line_end : ℕ → Bool
is_line_end c = c == 0x0D || c == 0x0A

abbrev pub is_within : ℕ → ℕ → ℕ → Bool
is_within low high c = nat_le low c && nat_le c high

abbrev pub is_digit : ℕ → Bool
is_digit c = is_within (code "0") (code "9") c

-- a letter's capital
unfoldable pub capital : ℕ → ℕ
capital c = if is_within (code "a") (code "z") c then c - 0x20 else c

-- a hex digit's value, in either case
unfoldable pub hex_of : ℕ → Option ℕ
hex_of c =
    if is_digit c then Some (c - code "0")
    else if is_within (code "A") (code "F") (capital c) then Some (capital c - 0x37)
    else None

-- the parameters that a comma has ended; p is what is read of the first
abbrev pub ended : List ℕ → List ℕ → List (List ℕ)
ended p [] = []
ended p (c ∷ args) =
    if is_comma c then p ∷ ended [] args else if is_blank c then ended p args
    else ended (p ++ c ∷ []) args

-- the parameter behind the last comma
abbrev pub last : List ℕ → List ℕ → List ℕ
last p [] = p
last p (c ∷ args) =
    if is_comma c then last [] args else if is_blank c then last p args
    else last (p ++ c ∷ []) args

-- parameters are separated by commas; blanks in them are dropped
unfoldable pub parameters : List ℕ → List (List ℕ)
parameters args = ended [] args ++ last [] args ∷ []

-- what is kept of a parameter: 16 bytes, and whether there are more, which makes it unreadable
pub record Kept : Type 0 where
  pub bytes : List ℕ
  pub is_long : Bool

abbrev pub kept : List ℕ → Kept
kept p = record { bytes = take 16 p; is_long = nat_lt 16 (length p) }

-- of the parameters, eight are kept
unfoldable pub kept_of : List (List ℕ) → List Kept
kept_of ps = take 8 (map kept ps)

-- digits read on from n: above 99,999,999 they count as that
abbrev pub number_on : ℕ → List ℕ → Option ℕ
number_on n [] = Some n
number_on n (c ∷ digits) =
    if is_digit c then number_on (min 99999999 (10 * n + (c - code "0"))) digits else None

-- a number is digits, 16 at most
abbrev pub number_in : Bool → List ℕ → Option ℕ
number_in is_long [] = None
number_in true (c ∷ digits) = None
number_in false (c ∷ digits) = number_on 0 (c ∷ digits)

unfoldable pub number_of : Kept → Option ℕ
number_of p = number_in p.is_long p.bytes

-- what stands behind the n-th comma
abbrev pub behind_commas : ℕ → List ℕ → List ℕ
behind_commas n [] = []
behind_commas n (c ∷ args) =
    if n == 0 then c ∷ args else if is_comma c then behind_commas (n - 1) args else behind_commas n args

-- a byte of two hex digits, where they are
abbrev pub hex_pair : Option ℕ → Option ℕ → Option ℕ
hex_pair (Some high) (Some low) = Some (16 * high + low)
hex_pair _ _ = None

-- the byte that the indicator and these two spell
unfoldable pub spelled : ℕ → ℕ → ℕ → ℕ → Option ℕ
spelled x a b c = if a == x then hex_pair (hex_of b) (hex_of c) else None

abbrev pub is_hex : Option ℕ → Bool
is_hex None = false
is_hex (Some n) = true

abbrev pub or_later : Option ℕ → List ℕ → List ℕ → List ℕ
or_later (Some n) behind_it rest = behind_it
or_later None behind_it rest = rest

-- the byte that is spelled, or a by itself
abbrev pub or_itself : Option ℕ → List ℕ → ℕ → List ℕ → List ℕ
or_itself (Some n) behind_it a rest = n ∷ behind_it
or_itself None behind_it a rest = a ∷ rest

-- The data of a field whose indicator is x: it and two hex digits are one byte,
-- and without them it is itself.
abbrev pub decoded : ℕ → List ℕ → List ℕ
decoded x (a ∷ b ∷ c ∷ more) = or_itself (spelled x a b c) (decoded x more) a (decoded x (b ∷ c ∷ more))
decoded x bytes = bytes

-- whether what begins with these could still be spelled as one byte
abbrev pub could_spell : ℕ → List ℕ → Bool
could_spell x [] = false
could_spell x (a ∷ []) = a == x
could_spell x (a ∷ b ∷ []) = a == x && is_hex (hex_of b)
could_spell x (a ∷ b ∷ c ∷ more) = false

-- what may yet be spelled with bytes to come
abbrev pub undecided : ℕ → List ℕ → List ℕ
undecided x [] = []
undecided x (a ∷ []) = if could_spell x (a ∷ []) then a ∷ [] else []
undecided x (a ∷ b ∷ []) = if could_spell x (a ∷ b ∷ []) then a ∷ b ∷ [] else undecided x (b ∷ [])
undecided x (a ∷ b ∷ c ∷ more) = or_later (spelled x a b c) (undecided x more) (undecided x (b ∷ c ∷ more))

-- the data that are known before it is decided
abbrev pub known : ℕ → List ℕ → List ℕ
known x [] = []
known x (a ∷ []) = if could_spell x (a ∷ []) then [] else a ∷ []
known x (a ∷ b ∷ []) = if could_spell x (a ∷ b ∷ []) then [] else a ∷ known x (b ∷ [])
known x (a ∷ b ∷ c ∷ more) = or_itself (spelled x a b c) (known x more) a (known x (b ∷ c ∷ more))
