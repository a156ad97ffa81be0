-- What the values of a symbol show.
use Rattle.std.specs.Prelude.{ℕ, ◌+◌, ◌-◌, ◌/◌, ◌%◌, ◌==◌, Bool, false, List, [], ◌∷◌, ◌++◌, length, take, drop, nat_lt, slice_index, if◌then◌else◌}
use Rattle.std.specs.List.{flat_map}
use Rattle.vp_bars.specs.declared.code_128.CodeSet.{CodeSet}
use Rattle.vp_bars.specs.declared.code_128.CodeSet.TheVariants.{A, B, C}
use Rattle.vp_bars.specs.Code39.{alphabet}
use Rattle.vp_bars.specs.CodeSets.{other_of}

-- the character of a value of Code 39 or of a digit: the star, which starts and stops, has none
abbrev pub character_of : ℕ → List ℕ
character_of v = if nat_lt v 43 then slice_index alphabet v ∷ [] else []

abbrev pub characters : List ℕ → List ℕ
characters vs = flat_map character_of vs

-- what a value shows in a code set: a byte of A or B, two digits of C, and nothing for a function character
abbrev pub text_in_set : CodeSet → ℕ → List ℕ
text_in_set A v = if nat_lt v 64 then (v + 32) ∷ [] else if nat_lt v 96 then (v - 64) ∷ [] else []
text_in_set B v = if nat_lt v 96 then (v + 32) ∷ [] else []
text_in_set C v = if nat_lt v 100 then (v / 10 + 48) ∷ (v % 10 + 48) ∷ [] else []

-- the set in force behind a value
abbrev pub set_behind : CodeSet → ℕ → CodeSet
set_behind A v = if v == 99 then C else if v == 100 then B else A
set_behind B v = if v == 99 then C else if v == 101 then A else B
set_behind C v = if v == 100 then B else if v == 101 then A else C

-- a shift in A or B
abbrev pub shifts : CodeSet → ℕ → Bool
shifts C v = false
shifts _ v = v == 98

-- the set of the next value: a shift lends the other one
abbrev pub next_set : CodeSet → ℕ → CodeSet
next_set set v = if shifts set v then other_of set else set_behind set v

-- what values show, where a code set is in force and the first of them is read in the set `now`
abbrev pub shown_from : CodeSet → CodeSet → List ℕ → List ℕ
shown_from set now [] = []
shown_from set now (v ∷ vs) = text_in_set now v ++ shown_from (set_behind set v) (next_set set v) vs

-- the set that a start character starts
abbrev pub set_of_start : ℕ → CodeSet
set_of_start v = if v == 103 then A else if v == 104 then B else C

-- the values between start and check
abbrev pub data_of : List ℕ → List ℕ
data_of vs = take (length vs - 3) (drop 1 vs)

abbrev pub shown_by : List ℕ → List ℕ
shown_by vs = let set = set_of_start (slice_index vs 0) in shown_from set set (data_of vs)
