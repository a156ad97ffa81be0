-- C40, Text and X12 encodation: three values in two codewords (ISO/IEC 16022, 5.2.5 to 5.2.7).
use Rattle.std.specs.Prelude.{ℕ, zero, suc, ◌+◌, ◌-◌, ◌*◌, ◌/◌, ◌%◌, ◌==◌, ◌&&◌, ◌||◌, nat_lt, nat_le, Bool, true, length, take, drop, List, [], ◌∷◌, ◌++◌, if◌then◌else◌}
use Rattle.vp_data_matrix.specs.declared.triple.Charset.{Charset}
use Rattle.vp_data_matrix.specs.declared.triple.Charset.TheVariants.{C40, Text, X12}
use Rattle.vp_data_matrix.specs.Ascii.{digit, ascii}

-- the codeword that latches to a character set (table 2)
abbrev pub latch : Charset → ℕ
latch C40 = 230
latch Text = 239
latch X12 = 238

abbrev pub capital : ℕ → Bool
capital byte = nat_le 65 byte && nat_le byte 90

abbrev pub small : ℕ → Bool
small byte = nat_le 97 byte && nat_le byte 122

-- C40's values of a byte below 128: one of the basic set (space, digits, capital letters), or one of the sets
-- 1, 2 and 3 behind its shift, 0, 1 or 2
abbrev pub c40_values : ℕ → List ℕ
c40_values byte =
    if nat_lt byte 32 then 0 ∷ byte ∷ []
    else if byte == 32 then 3 ∷ []
    else if nat_lt byte 48 then 1 ∷ (byte - 33) ∷ []
    else if nat_lt byte 58 then (byte - 44) ∷ []
    else if nat_lt byte 65 then 1 ∷ (byte - 43) ∷ []
    else if nat_lt byte 91 then (byte - 51) ∷ []
    else if nat_lt byte 96 then 1 ∷ (byte - 69) ∷ []
    else 2 ∷ (byte - 96) ∷ []

-- Text's are those of C40 with capital and small letters exchanged
abbrev pub exchanged : ℕ → ℕ
exchanged byte = if capital byte then byte + 32 else if small byte then byte - 32 else byte

-- X12's: its three separators stand in the place of the shifts, and all others as in C40
abbrev pub x12_values : ℕ → List ℕ
x12_values byte =
    if byte == 13 then 0 ∷ []
    else if byte == 42 then 1 ∷ []
    else if byte == 62 then 2 ∷ []
    else c40_values byte

abbrev pub low_values : Charset → ℕ → List ℕ
low_values C40 byte = c40_values byte
low_values Text byte = c40_values (exchanged byte)
low_values X12 byte = x12_values byte

-- the values of a byte: from 128 on it stands behind an upper shift, 30 of set 2
abbrev pub byte_values : Charset → ℕ → List ℕ
byte_values set byte = if nat_lt byte 128 then low_values set byte
    else 1 ∷ 30 ∷ low_values set (byte - 128)

abbrev pub values : Charset → List ℕ → List ℕ
values set [] = []
values set (byte ∷ rest) = byte_values set byte ++ values set rest

-- X12 has no shifts: its characters are the separators, space, digits and capital letters
abbrev pub x12_has : ℕ → Bool
x12_has byte = byte == 13 || byte == 42 || byte == 62 || byte == 32 || digit byte || capital byte

abbrev pub has : Charset → ℕ → Bool
has C40 byte = true
has Text byte = true
has X12 byte = x12_has byte

-- three values in two codewords (5.2.5.2)
abbrev pub pair : ℕ → ℕ → ℕ → List ℕ
pair a b c =
    let v = 1600 * a + 40 * b + c + 1 in
    v / 256 ∷ v % 256 ∷ []

unfoldable pub pairs : List ℕ → List ℕ
pairs [] = []
pairs (a ∷ []) = []
pairs (a ∷ b ∷ []) = []
pairs (a ∷ b ∷ c ∷ rest) = pair a b c ++ pairs rest

-- the values of the first k bytes are whole triples
abbrev pub are_whole : Charset → List ℕ → ℕ → Bool
are_whole set src k = length (values set (take k src)) % 3 == 0

-- the largest number up to n that passes a test, or 0
abbrev pub largest : (ℕ → Bool) → ℕ → ℕ
largest p zero = zero
largest p (suc n) = if p (suc n) then suc n else largest p n

-- how many bytes the longest front has whose values are whole triples
unfoldable pub front : Charset → List ℕ → ℕ
front set src = largest (are_whole set src) (length src)

-- the unlatch, 254: where the codewords fill the symbol, the last one is read in ASCII without it (5.2.5.2)
abbrev pub unlatch : Bool → ℕ → List ℕ
unlatch full left = if full && nat_le left 1 then [] else 254 ∷ []

-- the latch, that front, the unlatch, and what is left in ASCII
unfoldable pub triples : Bool → Charset → List ℕ → List ℕ
triples full set src =
    let left = ascii (drop (front set src) src) in
    latch set ∷ pairs (values set (take (front set src) src)) ++ (unlatch full (length left) ++ left)
