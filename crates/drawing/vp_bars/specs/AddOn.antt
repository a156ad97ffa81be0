-- The add-ons of two and five digits (ISO/IEC 15420).
use Rattle.std.specs.Prelude.{ℕ, ◌+◌, ◌*◌, ◌%◌, ◌==◌, ◌||◌, Bool, List, [], ◌∷◌, length, codes, nat_le, slice_index, slice_index_or, Option, None, Some, Result, Ok, Err, if◌then◌else◌}
use Rattle.std.specs.List.{flat_map}
use Rattle.vp_dots.specs.declared.fault.Fault.{Fault}
use Rattle.vp_dots.specs.declared.fault.Fault.TheVariants.{Symbol}
use Rattle.vp_dots.specs.declared.fault.Why.TheVariants.{Char, Length}
use Rattle.vp_bars.specs.declared.symbology.Symbology.TheVariants as symbologies
use Rattle.vp_bars.specs.Symbols.{Linear, within_length}
use Rattle.vp_bars.specs.Patterns.{numbers}
use Rattle.vp_bars.specs.Signs.{digits, values_among}
use Rattle.vp_bars.specs.Upc.{add_on_guard, separator, in_sets, padded}

-- the sets of two digits by their number modulo 4: 0 for A and 1 for B
abbrev pub two_sets : List (List ℕ)
two_sets = numbers (codes "00") ∷ numbers (codes "01") ∷ numbers (codes "10") ∷ numbers (codes "11") ∷ []

-- the sets of five digits by the sum of these, weighted 3 and 9 in turn, modulo 10
abbrev pub five_sets : List (List ℕ)
five_sets =
    numbers (codes "11000") ∷ numbers (codes "10100") ∷ numbers (codes "10010") ∷
    numbers (codes "10001") ∷ numbers (codes "01100") ∷ numbers (codes "00110") ∷
    numbers (codes "00011") ∷ numbers (codes "01010") ∷ numbers (codes "01001") ∷
    numbers (codes "00101") ∷ []

abbrev pub five_sum : List ℕ → ℕ
five_sum ds = 3 * (slice_index ds 0 + slice_index ds 2 + slice_index ds 4)
    + 9 * (slice_index ds 1 + slice_index ds 3)

abbrev pub add_on_sets : List ℕ → List ℕ
add_on_sets ds = if length ds == 2
    then slice_index_or two_sets ((10 * slice_index ds 0 + slice_index ds 1) % 4) []
    else slice_index_or five_sets (five_sum ds % 10) []

-- each value but the first behind a separator
abbrev pub behind_separator : ℕ → List ℕ
behind_separator v = separator ∷ v ∷ []

abbrev pub separated : List ℕ → List ℕ
separated [] = []
separated (v ∷ vs) = v ∷ flat_map behind_separator vs

abbrev pub add_on_digits : List ℕ → Result Linear Fault
add_on_digits ds = if length ds == 2 || length ds == 5 then Ok (record {
  symbology = symbologies.AddOn;
  values = add_on_guard ∷ separated (in_sets (add_on_sets ds) ds);
}) else Err (Symbol Length)

-- how many digits others are padded to
abbrev pub add_on_count : ℕ → ℕ
add_on_count n = if nat_le n 2 then 2 else 5

abbrev pub add_on_symbol : Bool → Option (List ℕ) → Result Linear Fault
add_on_symbol pad None = Err (Symbol Char)
add_on_symbol pad (Some ds) = add_on_digits (padded pad (add_on_count (length ds)) ds)

-- the symbol for these bytes, or why there is none
abbrev pub add_on_of : List ℕ → Bool → Result Linear Fault
add_on_of src pad = within_length src (add_on_symbol pad (values_among digits src))
