-- What holds of the tables of patterns as a whole.
use Rattle.std.specs.Prelude.{ℕ, ◌-◌, ◌==◌, Bool, true, false, not, ◌&&◌, ◌||◌, List, [], ◌∷◌, ◌++◌, length, map, take, replicate, nat_lt, nat_le, slice_index, if◌then◌else◌}
use Rattle.std.specs.List.{list_all}
use Rattle.vp_bars.specs.Patterns.{set_a, set_b, set_c}
use Rattle.vp_bar_code.specs.declared.CodabarEnd.{CodabarEnd}
use Rattle.vp_bars.specs.Codabar.{codabar_signs, end_value}
use Rattle.vp_bars.specs.Widths.{total}

abbrev pub same : List ℕ → List ℕ → Bool
same [] [] = true
same (x ∷ xs) (y ∷ ys) = x == y && same xs ys
same _ _ = false

-- no two of some patterns are alike
abbrev pub distinct : List (List ℕ) → Bool
distinct [] = true
distinct (p ∷ ps) = list_all (λ q. not (same p q)) ps && distinct ps

abbrev pub digits : List ℕ
digits = 0 ∷ 1 ∷ 2 ∷ 3 ∷ 4 ∷ 5 ∷ 6 ∷ 7 ∷ 8 ∷ 9 ∷ []

-- a character of Code 39 has nine elements, of which three are wide
abbrev pub three_of_nine : List ℕ → Bool
three_of_nine es = length es == 9 && total es == 3

-- so many elements, of which so many are wide
abbrev pub wide_of : ℕ → ℕ → List ℕ → Bool
wide_of wide count es = length es == count && total es == wide

-- a character of Codabar has seven elements, of which two or three are wide, and one of Code 11 five, of
-- which one or two are
abbrev pub codabar_elements : List ℕ → Bool
codabar_elements es = wide_of 2 7 es || wide_of 3 7 es

abbrev pub code11_elements : List ℕ → Bool
code11_elements es = wide_of 1 5 es || wide_of 2 5 es

-- a character of Code 93 has six elements of nine modules
abbrev pub nine_modules : List ℕ → Bool
nine_modules es = length es == 6 && total es == 9

-- a character of Code 128 has six elements of eleven modules, and the stop seven of thirteen
abbrev pub eleven_modules : List ℕ → Bool
eleven_modules es = length es == 6 && total es == 11

abbrev pub thirteen_modules : List ℕ → Bool
thirteen_modules es = length es == 7 && total es == 13

-- the patterns of all digits in the three number sets
abbrev pub digit_patterns : List (List ℕ)
digit_patterns = map set_a digits ++ (map set_b digits ++ map set_c digits)

abbrev pub seven_modules : List ℕ → Bool
seven_modules ms = length ms == 7

-- a character of ASCII in a text: a blank for a control character
abbrev pub printed : ℕ → ℕ
printed c = if nat_lt c 32 || c == 127 then 32 else c

-- so many bytes, of digits with zeros before them where there are fewer
abbrev pub filled : ℕ → List ℕ → List ℕ
filled count src = take count (replicate (count - length src) 48 ++ src)

-- the articles that a maker's number has in UPC-E, by its last three digits: up to 999 where it ends in 000,
-- 100 or 200, up to 99 where it ends in 00 and up to 9 where in 0, and else from 5 to 9
abbrev pub has_article : ℕ → ℕ → ℕ → ℕ → Bool
has_article c d e article =
    if d == 0 && e == 0 then (if nat_lt c 3 then nat_le article 999 else nat_le article 99)
    else if e == 0 then nat_le article 9 else nat_le 5 article && nat_le article 9

-- the letters that start and stop a symbol of Codabar
abbrev pub is_letter : ℕ → Bool
is_letter c = nat_le 65 c && nat_le c 68

abbrev pub end_letter : CodabarEnd → ℕ
end_letter letter = slice_index codabar_signs (end_value letter)
