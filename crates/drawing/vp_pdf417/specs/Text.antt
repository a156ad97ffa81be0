-- Text compaction (ISO/IEC 15438, Text Compaction mode).
use Rattle.std.specs.Prelude.{ℕ, zero, suc, ◌+◌, ◌-◌, ◌*◌, ◌==◌, ◌&&◌, nat_le, not, Bool, false, length, List, [], ◌∷◌, ◌++◌, Option, Some, None, unwrap_or, slice_index, if◌then◌else◌}
use Rattle.vp_pdf417.specs.declared.submode.Submode.{Submode}
use Rattle.vp_pdf417.specs.declared.submode.Submode.TheVariants.{Alpha, Lower, Mixed}
use Rattle.vp_pdf417.specs.declared.submode.TheConstants.{MIXED, PUNCTUATION}

abbrev pub capital : ℕ → Bool
capital byte = nat_le 65 byte && nat_le byte 90

abbrev pub small : ℕ → Bool
small byte = nat_le 97 byte && nat_le byte 122

-- the first of n numbers from k on that passes a test
abbrev pub first_from : (ℕ → Bool) → ℕ → ℕ → Option ℕ
first_from p k zero = None
first_from p k (suc n) = if p k then Some k else first_from p (k + 1) n

-- the value of a character by its place among those of a sub-mode
unfoldable pub place_in : List ℕ → ℕ → Option ℕ
place_in characters byte = first_from (λ k. slice_index characters k == byte) 0 (length characters)

-- the value of a character in a sub-mode that has it
abbrev pub value_in : Submode → ℕ → Option ℕ
value_in Alpha byte = if byte == 32 then Some 26 else if capital byte then Some (byte - 65) else None
value_in Lower byte = if byte == 32 then Some 26 else if small byte then Some (byte - 97) else None
value_in Mixed byte = if byte == 32 then Some 26 else place_in MIXED byte

-- the sub-mode of a character that punctuation hasn't
abbrev pub home : ℕ → Submode
home byte = if capital byte then Alpha else if small byte then Lower else Mixed

-- the values that latch from a sub-mode to another: mixed and then alpha, lower, or the other two
abbrev pub latch : Submode → Submode → List ℕ
latch Lower Alpha = 28 ∷ 28 ∷ []
latch from Lower = 27 ∷ []
latch from to = 28 ∷ []

-- a capital among small letters that no other one follows stands behind a shift
abbrev pub is_shifted : Submode → ℕ → Bool → Bool
is_shifted Lower byte more = capital byte && not more
is_shifted from byte more = false

-- the values of a character, by its value in the sub-mode in force and that in punctuation: punctuation is
-- behind a shift, 29, and a character of another sub-mode behind a latch to it or a shift to alpha, 27
abbrev pub values_by : Option ℕ → Option ℕ → Submode → ℕ → Bool → List ℕ
values_by (Some value) mark mode byte more = value ∷ []
values_by None (Some value) mode byte more = 29 ∷ value ∷ []
values_by None None mode byte more =
    (if is_shifted mode byte more then 27 ∷ [] else latch mode (home byte))
    ++ unwrap_or (value_in (home byte) byte) 0 ∷ []

-- and the sub-mode behind it
abbrev pub mode_by : Option ℕ → Option ℕ → Submode → ℕ → Bool → Submode
mode_by (Some value) mark mode byte more = mode
mode_by None (Some value) mode byte more = mode
mode_by None None mode byte more = if is_shifted mode byte more then mode else home byte

-- a character, where a capital follows or doesn't
unfoldable pub values_of : Submode → ℕ → Bool → List ℕ
values_of mode byte more = values_by (value_in mode byte) (place_in PUNCTUATION byte) mode byte more

unfoldable pub mode_behind : Submode → ℕ → Bool → Submode
mode_behind mode byte more = mode_by (value_in mode byte) (place_in PUNCTUATION byte) mode byte more

-- the values of characters, from a sub-mode on
unfoldable pub text_values : Submode → List ℕ → List ℕ
text_values mode [] = []
text_values mode (byte ∷ rest) = values_of mode byte (capital (slice_index rest 0))
    ++ text_values (mode_behind mode byte (capital (slice_index rest 0))) rest

-- two values are a codeword; a last one is filled up by a shift, 29
abbrev pub paired : List ℕ → List ℕ
paired [] = []
paired (a ∷ []) = (30 * a + 29) ∷ []
paired (a ∷ b ∷ rest) = (30 * a + b) ∷ paired rest

-- a symbol begins in alpha
abbrev pub text : List ℕ → List ℕ
text src = paired (text_values Alpha src)
