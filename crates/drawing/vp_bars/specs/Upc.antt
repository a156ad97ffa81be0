-- The characters of EAN-8, UPC-A, UPC-E and their add-ons (ISO/IEC 15420).
use Rattle.std.specs.Prelude.{ℕ, ◌+◌, ◌-◌, ◌%◌, ◌==◌, ◌||◌, ◌&&◌, Bool, true, false, List, [], ◌∷◌, ◌++◌, length, take, drop, replicate, nat_lt, nat_le, if◌then◌else◌}
use Rattle.std.specs.List.{flat_map}
use Rattle.vp_bars.specs.Elements.{set_a_elements, set_b_elements}
use Rattle.vp_bars.specs.Checks.{mod10_check}

-- a digit in number set A or C is its own value, and one in B is ten more; then come the guards
abbrev pub guard_bars : ℕ
guard_bars = 20

abbrev pub centre_bars : ℕ
centre_bars = 21

-- the right guard of UPC-E
abbrev pub end_bars : ℕ
end_bars = 22

-- the guard before an add-on, and what separates its digits
abbrev pub add_on_guard : ℕ
add_on_guard = 23

abbrev pub separator : ℕ
separator = 24

-- a digit that only the sets of the others tell has no elements: 30 and the digit
abbrev pub told : ℕ → ℕ
told d = 30 + d

-- the elements of a guard, in modules
abbrev pub guard_elements : ℕ → List ℕ
guard_elements v =
    if v == guard_bars then 1 ∷ 1 ∷ 1 ∷ []
    else if v == centre_bars then 1 ∷ 1 ∷ 1 ∷ 1 ∷ 1 ∷ []
    else if v == end_bars then 1 ∷ 1 ∷ 1 ∷ 1 ∷ 1 ∷ 1 ∷ []
    else if v == add_on_guard then 1 ∷ 1 ∷ 2 ∷ []
    else if v == separator then 1 ∷ 1 ∷ [] else []

abbrev pub upc_pattern : ℕ → List ℕ
upc_pattern v = if nat_lt v 10 then set_a_elements v
    else if nat_lt v 20 then set_b_elements (v - 10) else guard_elements v

-- the digit of a value, if it has one
abbrev pub digit_shown : ℕ → List ℕ
digit_shown v = if nat_lt v 20 then (v % 10 + 48) ∷ []
    else if nat_le 30 v && nat_lt v 40 then (v + 18) ∷ [] else []

abbrev pub digits_shown : List ℕ → List ℕ
digits_shown vs = flat_map digit_shown vs

-- digits in their sets: 0 for A
abbrev pub in_set : ℕ → ℕ → ℕ
in_set set d = if set == 0 then d else d + 10

abbrev pub in_sets : List ℕ → List ℕ → List ℕ
in_sets (set ∷ sets) (d ∷ ds) = in_set set d ∷ in_sets sets ds
in_sets _ _ = []

-- padded, digits that are fewer than so many get zeros on the left, and of more the first ones stand
abbrev pub padded : Bool → ℕ → List ℕ → List ℕ
padded false count ds = ds
padded true count ds = take count (replicate (count - length ds) 0 ++ ds)

-- so many digits and their check digit; one more that came is not looked at
abbrev pub checked : ℕ → List ℕ → List ℕ
checked count ds = take count ds ++ mod10_check (take count ds) ∷ []

abbrev pub is_count : ℕ → ℕ → Bool
is_count count n = n == count || n == count + 1

-- so many digits, and the others, between guards
abbrev pub halves : ℕ → List ℕ → List ℕ
halves half ds = guard_bars ∷ take half ds ++ centre_bars ∷ drop half ds ++ guard_bars ∷ []
