-- Code 11.
use Rattle.std.specs.Prelude.{ℕ, ◌%◌, List, [], ◌∷◌, ◌++◌, codes, slice_index_or, Option, None, Some, Result, Ok, Err}
use Rattle.vp_dots.specs.declared.fault.Fault.{Fault}
use Rattle.vp_dots.specs.declared.fault.Fault.TheVariants.{Symbol}
use Rattle.vp_dots.specs.declared.fault.Why.TheVariants.{Char}
use Rattle.vp_bar_code.specs.declared.Code11Checks.{Code11Checks}
use Rattle.vp_bar_code.specs.declared.Code11Checks.TheVariants.{One, Two}
use Rattle.vp_bars.specs.declared.symbology.Symbology.TheVariants as symbologies
use Rattle.vp_bars.specs.Symbols.{Linear, within_length}
use Rattle.vp_bars.specs.Patterns.{numbers}
use Rattle.vp_bars.specs.Signs.{values_among}
use Rattle.vp_bars.specs.Checks.{weighed}

-- the eleven characters in the order of their values
abbrev pub code11_signs : List ℕ
code11_signs = codes "0123456789-"

-- the five elements of each character, 1 for a wide one
abbrev pub code11_table : List (List ℕ)
code11_table =
    numbers (codes "00001") ∷ numbers (codes "10001") ∷ numbers (codes "01001") ∷
    numbers (codes "11000") ∷ numbers (codes "00101") ∷ numbers (codes "10100") ∷
    numbers (codes "01100") ∷ numbers (codes "00011") ∷ numbers (codes "10010") ∷
    numbers (codes "10000") ∷ numbers (codes "00100") ∷ []

abbrev pub code11_pattern : ℕ → List ℕ
code11_pattern v = slice_index_or code11_table v []

-- the elements of start and stop
abbrev pub code11_end : List ℕ
code11_end = numbers (codes "00110")

-- C weighs the values by 1 to 10, and K those with C by 1 to 9
abbrev pub with_c : List ℕ → List ℕ
with_c vs = vs ++ weighed 1 10 vs % 11 ∷ []

abbrev pub with_k : List ℕ → List ℕ
with_k vs = vs ++ weighed 1 9 vs % 11 ∷ []

abbrev pub code11_checked : Code11Checks → List ℕ → List ℕ
code11_checked One vs = with_c vs
code11_checked Two vs = with_k (with_c vs)

abbrev pub code11_symbol : Code11Checks → Option (List ℕ) → Result Linear Fault
code11_symbol checks None = Err (Symbol Char)
code11_symbol checks (Some vs) = Ok (record {
  symbology = symbologies.Code11;
  values = code11_checked checks vs;
})

-- the symbol for these bytes, or why there is none
abbrev pub code11_of : List ℕ → Code11Checks → Result Linear Fault
code11_of src checks = within_length src (code11_symbol checks (values_among code11_signs src))
