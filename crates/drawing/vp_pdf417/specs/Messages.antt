-- The message codewords of bytes (ISO/IEC 15438, high level encodation).
use Rattle.std.specs.Prelude.{ℕ, zero, suc, ◌+◌, ◌==◌, ◌&&◌, ◌||◌, not, nat_le, Bool, length, List, [], ◌∷◌, ◌++◌, take, drop, slice_index, true, false, if◌then◌else◌}
use Rattle.std.specs.List.{list_all}
use Rattle.vp_pdf417.specs.declared.mode.Mode.{Mode}
use Rattle.vp_pdf417.specs.declared.mode.Mode.TheVariants.{Text, Bytes, Numeric}
use Rattle.vp_pdf417.specs.Text.{text}
use Rattle.vp_pdf417.specs.Bytes.{bytes}
use Rattle.vp_pdf417.specs.Numeric.{numeric}

abbrev pub is_digit : ℕ → Bool
is_digit byte = nat_le 48 byte && nat_le byte 57

-- the characters of text compaction: tab, line feed, carriage return, and what is printed of ASCII
abbrev pub is_text : ℕ → Bool
is_text byte = byte == 9 || byte == 10 || byte == 13 || nat_le 32 byte && nat_le byte 126

-- bytes begin with 13 digits
abbrev pub begins_numeric : List ℕ → Bool
begins_numeric src = nat_le 13 (length src) && list_all is_digit (take 13 src)

-- the compaction in which bytes begin: numeric at 13 digits, text at five characters of it or where all that
-- are left are such, and byte else
unfoldable pub mode_at : List ℕ → Mode
mode_at src = if begins_numeric src then Numeric else if list_all is_text (take 5 src) then Text else Bytes

abbrev pub is_byte_mode : Mode → Bool
is_byte_mode Bytes = true
is_byte_mode mode = false

-- whether it goes on at these bytes: numeric for all digits, text to the next 13 digits or the next byte that
-- isn't text, and byte to where another begins
unfoldable pub goes_on : Mode → List ℕ → Bool
goes_on Numeric src = is_digit (slice_index src 0)
goes_on Text src = is_text (slice_index src 0) && not (begins_numeric src)
goes_on Bytes src = is_byte_mode (mode_at src)

-- for how many bytes it does
unfoldable pub front : Mode → List ℕ → ℕ
front mode [] = 0
front mode (byte ∷ rest) = if goes_on mode (byte ∷ rest) then 1 + front mode rest else 0

-- bytes in a compaction, behind its latch
unfoldable pub segment : Mode → List ℕ → List ℕ
segment Text src = 900 ∷ text src
segment Bytes src = bytes src
segment Numeric src = numeric src

-- at most n segments
unfoldable pub segments : ℕ → List ℕ → List ℕ
segments zero src = []
segments (suc n) [] = []
segments (suc n) (byte ∷ rest) =
    let mode = mode_at (byte ∷ rest) in
    segment mode (take (front mode (byte ∷ rest)) (byte ∷ rest))
    ++ segments n (drop (front mode (byte ∷ rest)) (byte ∷ rest))

-- all of them
abbrev pub all_segments : List ℕ → List ℕ
all_segments src = segments (length src) src

-- a symbol begins in text, without a latch
abbrev pub message_by : Mode → List ℕ → List ℕ
message_by Text src = text (take (front Text src) src) ++ all_segments (drop (front Text src) src)
message_by mode src = all_segments src

unfoldable pub message : List ℕ → List ℕ
message src = message_by (mode_at src) src
