-- Signs and their values: a sign's value is its place in an alphabet.
use Rattle.std.specs.Prelude.{ℕ, ◌==◌, List, [], ◌∷◌, length, codes, nat_lt, slice_index, Option, Some, position, if◌then◌else◌}
use Rattle.std.specs.List.{flat_map}
use Rattle.vp_bars.specs.Code39.{with_value}

abbrev pub digits : List ℕ
digits = codes "0123456789"

abbrev pub value_among : List ℕ → ℕ → Option ℕ
value_among alphabet c = position (λ a. a == c) alphabet

-- the values of all signs, none where one isn't of the alphabet
abbrev pub values_among : List ℕ → List ℕ → Option (List ℕ)
values_among alphabet [] = Some []
values_among alphabet (c ∷ cs) = with_value (value_among alphabet c) (values_among alphabet cs)

-- the sign of a value; what is none, as a start, has none
abbrev pub sign_of : List ℕ → ℕ → List ℕ
sign_of alphabet v = if nat_lt v (length alphabet) then slice_index alphabet v ∷ [] else []

abbrev pub signs_of : List ℕ → List ℕ → List ℕ
signs_of alphabet vs = flat_map (sign_of alphabet) vs
