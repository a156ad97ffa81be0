-- Codabar (EN 798).
use Rattle.std.specs.Prelude.{ℕ, ◌-◌, Bool, not, ◌&&◌, List, [], ◌∷◌, ◌++◌, length, map, take, drop, nat_lt, nat_le, codes, slice_index, slice_index_or, Option, None, Some, Result, Ok, Err, if◌then◌else◌}
use Rattle.std.specs.List.{list_all}
use Rattle.vp_dots.specs.declared.fault.Fault.{Fault}
use Rattle.vp_dots.specs.declared.fault.Fault.TheVariants.{Symbol}
use Rattle.vp_dots.specs.declared.fault.Why.TheVariants.{Char, Length}
use Rattle.vp_bar_code.specs.declared.CodabarEnd.{CodabarEnd}
use Rattle.vp_bar_code.specs.declared.CodabarEnd.TheVariants.{A, B, C, D}
use Rattle.vp_bar_code.specs.declared.CodabarEnds.{CodabarEnds}
use Rattle.vp_bar_code.specs.declared.CodabarEnds.TheVariants.{Data, Around}
use Rattle.vp_bars.specs.declared.symbology.Symbology.TheVariants as symbologies
use Rattle.vp_bars.specs.Symbols.{Linear, within_length}
use Rattle.vp_bars.specs.Patterns.{numbers}
use Rattle.vp_bars.specs.Signs.{values_among}

-- the 20 characters in the order of their values, with the four that start and stop a symbol (table 1)
abbrev pub codabar_signs : List ℕ
codabar_signs = codes "0123456789-$:/.+ABCD"

-- the seven elements of each character, 1 for a wide one
abbrev pub codabar_table : List (List ℕ)
codabar_table =
    numbers (codes "0000011") ∷ numbers (codes "0000110") ∷ numbers (codes "0001001") ∷
    numbers (codes "1100000") ∷ numbers (codes "0010010") ∷ numbers (codes "1000010") ∷
    numbers (codes "0100001") ∷ numbers (codes "0100100") ∷ numbers (codes "0110000") ∷
    numbers (codes "1001000") ∷ numbers (codes "0001100") ∷ numbers (codes "0011000") ∷
    numbers (codes "1000101") ∷ numbers (codes "1010001") ∷ numbers (codes "1010100") ∷
    numbers (codes "0010101") ∷ numbers (codes "0011010") ∷ numbers (codes "0101001") ∷
    numbers (codes "0001011") ∷ numbers (codes "0001110") ∷ []

abbrev pub codabar_pattern : ℕ → List ℕ
codabar_pattern v = slice_index_or codabar_table v []

-- whether a value starts or stops a symbol
abbrev pub is_end : ℕ → Bool
is_end v = nat_le 16 v

-- the values between the first and the last
abbrev pub between : List ℕ → List ℕ
between vs = take (length vs - 2) (drop 1 vs)

-- whether a start comes first and a stop last, and neither between them
abbrev pub has_ends : List ℕ → Bool
has_ends vs = is_end (slice_index vs 0) && is_end (slice_index vs (length vs - 1))
    && list_all (λ v. not (is_end v)) (between vs)

-- start and stop have at least one character between them
abbrev pub codabar_made : List ℕ → Result Linear Fault
codabar_made vs = if has_ends vs then (if nat_lt (length vs) 3 then Err (Symbol Length)
    else Ok (record { symbology = symbologies.Codabar; values = vs })) else Err (Symbol Char)

abbrev pub end_value : CodabarEnd → ℕ
end_value A = 16
end_value B = 17
end_value C = 18
end_value D = 19

-- start and stop are put around values that have none of their own
abbrev pub ended : CodabarEnds → List ℕ → List ℕ
ended Data vs = vs
ended (Around start stop) vs = if has_ends vs then vs else end_value start ∷ vs ++ end_value stop ∷ []

abbrev pub codabar_for : CodabarEnds → Option (List ℕ) → Result Linear Fault
codabar_for ends None = Err (Symbol Char)
codabar_for ends (Some vs) = codabar_made (ended ends vs)

-- small letters a to d are starts and stops as well where these are of the data
abbrev pub capital : ℕ → ℕ
capital c = if nat_le 97 c && nat_le c 100 then c - 32 else c

abbrev pub written : CodabarEnds → List ℕ → List ℕ
written Data src = map capital src
written (Around start stop) src = src

-- the symbol for these bytes, or why there is none
abbrev pub codabar_of : List ℕ → CodabarEnds → Result Linear Fault
codabar_of src ends = within_length src (codabar_for ends (values_among codabar_signs (written ends src)))
