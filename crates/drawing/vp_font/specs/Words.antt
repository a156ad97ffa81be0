-- Lines, words and numbers of a file (technical note 5005, 3).
use Rattle.std.specs.Prelude.{ℕ, zero, suc, ◌-◌, ◌^◌, ◌==◌, ◌&&◌, ◌||◌, not, nat_lt, nat_le, min, Bool, true, false, List, [], ◌∷◌, length, take, drop, Result, Ok, Err, if◌then◌else◌}
use Rattle.std.specs.List.{prefix_len}
use Rattle.std.specs.Str.Parse.{digits_value}
use Rattle.vp_font.specs.declared.fault.Fault.{Fault}
use Rattle.vp_font.specs.declared.fault.Fault.TheVariants.{Number as NoNumber}
use Rattle.vp_font.specs.declared.words.Number.{Number}

-- what stands in a line
abbrev pub within_line : ℕ → Bool
within_line b = not (b == 10)

-- a byte before the first of the lines
abbrev pub onto : ℕ → List (List ℕ) → List (List ℕ)
onto b [] = (b ∷ []) ∷ []
onto b (line ∷ lines) = (b ∷ line) ∷ lines

-- the lines of a text, each ended by LF, the last one also by the text's end
unfoldable pub lines : List ℕ → List (List ℕ)
lines [] = []
lines (b ∷ rest) = if b == 10 then [] ∷ lines rest else onto b (lines rest)

-- what divides words: a blank, TAB, and CR, which may stand before LF
abbrev pub white : ℕ → Bool
white b = b == 32 || b == 9 || b == 13

abbrev pub inked : ℕ → Bool
inked b = not (white b)

abbrev pub past_white : List ℕ → List ℕ
past_white line = drop (prefix_len white line) line

-- the first word, and what stands behind it
unfoldable pub first_word : List ℕ → List ℕ
first_word line = take (prefix_len inked (past_white line)) (past_white line)

unfoldable pub behind_word : List ℕ → List ℕ
behind_word line = drop (prefix_len inked (past_white line)) (past_white line)

-- what stands behind so many words
abbrev pub behind : ℕ → List ℕ → List ℕ
behind zero line = line
behind (suc n) line = behind_word (behind n line)

-- word n of a line, from 0
abbrev pub word : ℕ → List ℕ → List ℕ
word n line = first_word (behind n line)

abbrev pub digit : ℕ → Bool
digit b = nat_le 48 b && nat_le b 57

-- digits as a number; one beyond the greatest of 32 bits, which is in no line's range, counts as that
unfoldable pub digits : Bool → List ℕ → Result Number Fault
digits below text = if nat_lt 0 (length text) && prefix_len digit text == length text
    then Ok (record { below = below; size = min (digits_value 10 text) (2 ^ 32 - 1) })
    else Err NoNumber

-- a minus or none, and digits
unfoldable pub number : List ℕ → Result Number Fault
number [] = Err NoNumber
number (b ∷ rest) = if b == 45 then digits true rest else digits false (b ∷ rest)

-- word n of a line as a number
abbrev pub number_at : ℕ → List ℕ → Result Number Fault
number_at n line = number (word n line)
