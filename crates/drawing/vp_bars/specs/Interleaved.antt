-- Interleaved 2 of 5 (ISO/IEC 16390).
use Rattle.std.specs.Prelude.{ℕ, ◌+◌, ◌*◌, ◌/◌, ◌%◌, ◌==◌, Bool, true, false, List, [], ◌∷◌, ◌++◌, length, map, nat_lt, codes, slice_index_or, Option, None, Some, Result, Ok, Err, if◌then◌else◌}
use Rattle.std.specs.List.{flat_map}
use Rattle.vp_dots.specs.declared.fault.Fault.{Fault}
use Rattle.vp_dots.specs.declared.fault.Fault.TheVariants.{Symbol}
use Rattle.vp_dots.specs.declared.fault.Why.TheVariants.{Char}
use Rattle.vp_bars.specs.declared.symbology.Symbology.TheVariants as symbologies
use Rattle.vp_bars.specs.Symbols.{Linear, within_length}
use Rattle.vp_bars.specs.Patterns.{numbers}
use Rattle.vp_bars.specs.Signs.{digits, values_among}
use Rattle.vp_bars.specs.Checks.{mod10_check}

-- the five elements of each digit, 1 for a wide one (table 1)
abbrev pub two_of_five : List (List ℕ)
two_of_five =
    numbers (codes "00110") ∷ numbers (codes "10001") ∷ numbers (codes "01001") ∷
    numbers (codes "11000") ∷ numbers (codes "00101") ∷ numbers (codes "10100") ∷
    numbers (codes "01100") ∷ numbers (codes "00011") ∷ numbers (codes "10010") ∷
    numbers (codes "01010") ∷ []

-- bars and spaces in turn
abbrev pub interleaved : List ℕ → List ℕ → List ℕ
interleaved (bar ∷ bars) (space ∷ spaces) = bar ∷ space ∷ interleaved bars spaces
interleaved _ _ = []

-- the elements of the hundred pairs: the bars are the first digit, and the spaces the second
abbrev pub pairs_table : List (List ℕ)
pairs_table = flat_map (λ bars. map (λ spaces. interleaved bars spaces) two_of_five) two_of_five

abbrev pub pair_pattern : ℕ → List ℕ
pair_pattern v = slice_index_or pairs_table v []

-- the check digit behind the data, if there is one
abbrev pub with_digit : Bool → List ℕ → List ℕ
with_digit false ds = ds
with_digit true ds = ds ++ mod10_check ds ∷ []

-- a 0 before an odd number of digits
abbrev pub zero_before : ℕ → List ℕ
zero_before count = if count % 2 == 1 then 0 ∷ [] else []

abbrev pub whole_pairs : List ℕ → List ℕ
whole_pairs ds = zero_before (length ds) ++ ds

-- the values of a symbol: two digits each
abbrev pub pairs_of : List ℕ → List ℕ
pairs_of (a ∷ b ∷ ds) = (10 * a + b) ∷ pairs_of ds
pairs_of _ = []

abbrev pub interleaved_symbol : Bool → Option (List ℕ) → Result Linear Fault
interleaved_symbol check None = Err (Symbol Char)
interleaved_symbol check (Some ds) = Ok (record {
  symbology = symbologies.Interleaved;
  values = pairs_of (whole_pairs (with_digit check ds));
})

-- the symbol for these bytes, or why there is none
abbrev pub interleaved_of : List ℕ → Bool → Result Linear Fault
interleaved_of src check = within_length src (interleaved_symbol check (values_among digits src))

-- the two digits of a value
abbrev pub pair_shown : ℕ → List ℕ
pair_shown v = if nat_lt v 100 then (v / 10 + 48) ∷ (v % 10 + 48) ∷ [] else []

abbrev pub pairs_shown : List ℕ → List ℕ
pairs_shown vs = flat_map pair_shown vs
