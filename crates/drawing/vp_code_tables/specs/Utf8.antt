-- UTF-8 (The Unicode Standard 15, 3.9, D92 and D93; RFC 3629).
use Rattle.std.specs.Prelude.{ℕ, suc, ◌+◌, ◌*◌, ◌/◌, ◌%◌, ◌==◌, ◌&&◌, ◌||◌, nat_le, nat_lt, max, Bool, true, Option, Some, None, List, [], ◌∷◌, ◌++◌, length, if◌then◌else◌}
use Rattle.std.specs.List.{list_all}

abbrev pub within : ℕ → ℕ → ℕ → Bool
within first last byte = nat_le first byte && nat_le byte last

-- how many bytes a sequence has that begins with this byte, 0 where none does (table 3-7)
unfoldable pub sequence_len : ℕ → ℕ
sequence_len a =
    if nat_le a 0x7f then 1
    else if within 0xc2 0xdf a then 2
    else if within 0xe0 0xef a then 3
    else if within 0xf0 0xf4 a then 4
    else 0

-- the second byte behind a first one (table 3-7)
unfoldable pub second_fits : ℕ → ℕ → Bool
second_fits a b =
    if a == 0xe0 then within 0xa0 0xbf b
    else if a == 0xed then within 0x80 0x9f b
    else if a == 0xf0 then within 0x90 0xbf b
    else if a == 0xf4 then within 0x80 0x8f b
    else within 0x80 0xbf b

-- the third and the fourth
unfoldable pub later_fits : ℕ → Bool
later_fits b = within 0x80 0xbf b

-- what follows a first byte fits as far as it goes
abbrev pub follows : ℕ → List ℕ → Bool
follows a [] = true
follows a (b ∷ more) = second_fits a b && list_all later_fits more

-- what bytes are together: a well-formed sequence, the beginning of one, or neither
pub data Part : Type 0 where
  Whole : Part
  Begins : Part
  Neither : Part

abbrev pub part_by : ℕ → ℕ → Part
part_by len n = if n == len then Whole else if nat_lt n len then Begins else Neither

abbrev pub part_of : List ℕ → Part
part_of [] = Begins
part_of (a ∷ more) = if follows a more then part_by (sequence_len a) (suc (length more)) else Neither

-- the scalar value that a well-formed sequence writes (table 3-6)
abbrev pub value_of : List ℕ → ℕ
value_of (a ∷ []) = a
value_of (a ∷ b ∷ []) = a % 32 * 64 + b % 64
value_of (a ∷ b ∷ c ∷ []) = (a % 16 * 64 + b % 64) * 64 + c % 64
value_of (a ∷ b ∷ c ∷ d ∷ []) = ((a % 8 * 64 + b % 64) * 64 + c % 64) * 64 + d % 64
value_of _ = 0

-- the character of bytes, where they are a well-formed sequence
abbrev pub character_if : Part → ℕ → Option ℕ
character_if Whole value = Some value
character_if _ value = None

abbrev pub utf8_character : List ℕ → Option ℕ
utf8_character bytes = character_if (part_of bytes) (value_of bytes)

-- A unit goes on with a byte where both together may begin a sequence, and ends with it where they are one;
-- else it ends before it, and has at least one byte.
abbrev pub len_by : Part → ℕ → ℕ → ℕ
len_by Whole read behind = suc read
len_by Begins read behind = behind
len_by Neither read behind = max 1 read

-- How many bytes the unit has that begins with these: a well-formed sequence, or the maximal subpart of an
-- ill-formed one (D93b).
unfoldable pub len_behind : List ℕ → List ℕ → ℕ
len_behind read [] = length read
len_behind read (b ∷ bytes) =
    len_by (part_of (read ++ b ∷ [])) (length read) (len_behind (read ++ b ∷ []) bytes)

abbrev pub utf8_len : List ℕ → ℕ
utf8_len bytes = len_behind [] bytes

-- the code points that are characters' or may be: all but the surrogates (D76)
abbrev pub is_scalar : ℕ → Bool
is_scalar value = nat_le value 0xd7ff || within 0xe000 0x10ffff value

-- a scalar value in UTF-8 (table 3-6)
unfoldable pub utf8 : ℕ → List ℕ
utf8 value =
    if nat_le value 0x7f then value ∷ []
    else if nat_le value 0x7ff then (0xc0 + value / 64) ∷ (0x80 + value % 64) ∷ []
    else if nat_le value 0xffff then
    (0xe0 + value / 4096) ∷ (0x80 + value / 64 % 64) ∷ (0x80 + value % 64) ∷ []
    else (0xf0 + value / 262144) ∷ (0x80 + value / 4096 % 64) ∷ (0x80 + value / 64 % 64)
    ∷ (0x80 + value % 64) ∷ []
