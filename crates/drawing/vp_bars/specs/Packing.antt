-- Code 128 as ZPL's ^BC has it in automatic mode: runs of four or more digits in set C, all else in set B.
use Rattle.std.specs.Prelude.{ℕ, ◌+◌, Bool, true, false, ◌&&◌, List, [], ◌∷◌, length, Result, Ok, if◌then◌else◌}
use Rattle.std.specs.Char.{is_ascii_digit}
use Rattle.vp_dots.specs.declared.fault.Fault.{Fault}
use Rattle.vp_dots.specs.declared.fault.Why.{Why}
use Rattle.vp_bars.specs.declared.code_128.CodeSet.{CodeSet}
use Rattle.vp_bars.specs.declared.code_128.CodeSet.TheVariants.{B, C}
use Rattle.vp_bars.specs.Symbols.{Linear, within_length}
use Rattle.vp_bars.specs.CodeSets.{selector_of, value_in, onto, plain, symbol_from}
use Rattle.vp_bars.specs.Invocations.{pair_of, code128_invoked_of}

abbrev pub two_digits : ℕ → ℕ → Bool
two_digits a b = is_ascii_digit a && is_ascii_digit b

-- two digits come first, or four
abbrev pub begins_pair : List ℕ → Bool
begins_pair (a ∷ b ∷ bytes) = two_digits a b
begins_pair _ = false

abbrev pub begins_run : List ℕ → Bool
begins_run (a ∷ b ∷ bytes) = two_digits a b && begins_pair bytes
begins_run _ = false

-- the values of data, read with a code set in force: four digits ahead change to C, which lasts as long as
-- there are pairs
abbrev pub packed : CodeSet → List ℕ → Result (List ℕ) Why
packed C [] = Ok []
packed C (a ∷ []) = onto (selector_of B ∷ []) (plain (value_in B a) (Ok []))
packed C (a ∷ b ∷ bytes) = if two_digits a b then onto (pair_of a b ∷ []) (packed C bytes)
    else onto (selector_of B ∷ []) (plain (value_in B a) (packed B (b ∷ bytes)))
packed _ [] = Ok []
packed _ (a ∷ b ∷ c ∷ d ∷ bytes) = if two_digits a b && two_digits c d
    then onto (selector_of C ∷ pair_of a b ∷ pair_of c d ∷ []) (packed C bytes)
    else plain (value_in B a) (packed B (b ∷ c ∷ d ∷ bytes))
packed _ (a ∷ bytes) = plain (value_in B a) (packed B bytes)

-- the most values that bytes can give: one each, and a selector where C ends at once
abbrev pub room_for : CodeSet → List ℕ → ℕ
room_for C bytes = if begins_pair bytes then length bytes else length bytes + 1
room_for _ bytes = length bytes

-- the set of the first value
abbrev pub first_set : List ℕ → CodeSet
first_set bytes = if begins_run bytes then C else B

abbrev pub packed_symbol : List ℕ → Result Linear Fault
packed_symbol src = symbol_from (first_set src) (packed (first_set src) src)

-- the symbol for these bytes, or why there is none
abbrev pub code128_zpl_of : List ℕ → Bool → Result Linear Fault
code128_zpl_of src false = code128_invoked_of src
code128_zpl_of src true = within_length src (packed_symbol src)
