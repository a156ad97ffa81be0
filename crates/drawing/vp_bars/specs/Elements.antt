-- The elements of EAN-13: its modules as bars and spaces.
use Rattle.std.specs.Prelude.{ℕ, ◌==◌, List, [], ◌∷◌, ◌++◌, reverse, take, drop, codes, slice_index_or, if◌then◌else◌}
use Rattle.std.specs.List.{flat_map}
use Rattle.vp_bars.specs.Patterns.{numbers, parity}

-- the widths of the elements of the digits in number set A, a space first, and in number set C, a bar first
abbrev pub set_a_widths : List (List ℕ)
set_a_widths =
    numbers (codes "3211") ∷ numbers (codes "2221") ∷ numbers (codes "2122") ∷
    numbers (codes "1411") ∷ numbers (codes "1132") ∷ numbers (codes "1231") ∷
    numbers (codes "1114") ∷ numbers (codes "1312") ∷ numbers (codes "1213") ∷
    numbers (codes "3112") ∷ []

abbrev pub set_a_elements : ℕ → List ℕ
set_a_elements d = slice_index_or set_a_widths d []

-- the elements of a digit in number set B, a space first
abbrev pub set_b_elements : ℕ → List ℕ
set_b_elements d = reverse (set_a_elements d)

-- the elements of a left digit in its set: 0 for A
abbrev pub left_elements_of : ℕ → ℕ → List ℕ
left_elements_of set d = if set == 0 then set_a_elements d else set_b_elements d

abbrev pub left_elements : List ℕ → List ℕ → List ℕ
left_elements (set ∷ sets) (d ∷ ds) = left_elements_of set d ++ left_elements sets ds
left_elements _ _ = []

-- the elements of a symbol from the left guard bars to the right ones, a bar first
abbrev pub ean13_elements : List ℕ → List ℕ
ean13_elements [] = []
ean13_elements (first ∷ ds) = (1 ∷ 1 ∷ 1 ∷ []) ++
    (left_elements (parity first) (take 6 ds) ++ ((1 ∷ 1 ∷ 1 ∷ 1 ∷ 1 ∷ [])
    ++ (flat_map set_a_elements (drop 6 ds) ++ (1 ∷ 1 ∷ 1 ∷ []))))
