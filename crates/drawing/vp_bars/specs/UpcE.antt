-- UPC-E (ISO/IEC 15420), which is of number system 0.
use Rattle.std.specs.Prelude.{ℕ, ◌==◌, Bool, ◌&&◌, List, [], ◌∷◌, ◌++◌, length, take, drop, nat_lt, nat_le, codes, slice_index, slice_index_or, Option, None, Some, Result, Ok, Err, if◌then◌else◌}
use Rattle.std.specs.List.{list_all}
use Rattle.vp_dots.specs.declared.fault.Fault.{Fault}
use Rattle.vp_dots.specs.declared.fault.Fault.TheVariants.{Symbol}
use Rattle.vp_dots.specs.declared.fault.Why.TheVariants.{Char, Length}
use Rattle.vp_bar_code.specs.declared.UpcEData.{UpcEData}
use Rattle.vp_bar_code.specs.declared.UpcEData.TheVariants.{Digits, MakerArticle}
use Rattle.vp_bars.specs.declared.symbology.Symbology.TheVariants as symbologies
use Rattle.vp_bars.specs.Symbols.{Linear, within_length}
use Rattle.vp_bars.specs.Patterns.{numbers}
use Rattle.vp_bars.specs.Signs.{digits, values_among}
use Rattle.vp_bars.specs.Checks.{mod10_check}
use Rattle.vp_bars.specs.Upc.{guard_bars, end_bars, told, in_sets, is_count}

-- the eleven digits of a UPC-A that six stand for, by the last of the six
abbrev pub long_form : List ℕ → List ℕ
long_form ds =
    let a = slice_index ds 0 in let b = slice_index ds 1 in let c = slice_index ds 2 in
    let d = slice_index ds 3 in let e = slice_index ds 4 in let f = slice_index ds 5 in
    if nat_lt f 3 then 0 ∷ a ∷ b ∷ f ∷ 0 ∷ 0 ∷ 0 ∷ 0 ∷ c ∷ d ∷ e ∷ []
    else if f == 3 then 0 ∷ a ∷ b ∷ c ∷ 0 ∷ 0 ∷ 0 ∷ 0 ∷ 0 ∷ d ∷ e ∷ []
    else if f == 4 then 0 ∷ a ∷ b ∷ c ∷ d ∷ 0 ∷ 0 ∷ 0 ∷ 0 ∷ 0 ∷ e ∷ []
    else 0 ∷ a ∷ b ∷ c ∷ d ∷ e ∷ 0 ∷ 0 ∷ 0 ∷ 0 ∷ f ∷ []

-- whether so many digits from one on are zeros
abbrev pub are_zeros : ℕ → ℕ → List ℕ → Bool
are_zeros from count ds = list_all (λ d. d == 0) (take count (drop from ds))

-- the six digits that stand for eleven of number system 0, if they have four zeros or more where these are
-- left out
abbrev pub short_form : List ℕ → Option (List ℕ)
short_form ds =
    let d1 = slice_index ds 1 in let d2 = slice_index ds 2 in let d3 = slice_index ds 3 in
    let d4 = slice_index ds 4 in let d5 = slice_index ds 5 in let d8 = slice_index ds 8 in
    let d9 = slice_index ds 9 in let d10 = slice_index ds 10 in
    if nat_le 1 (slice_index ds 0) then None
    else if nat_lt d3 3 && are_zeros 4 4 ds then Some (d1 ∷ d2 ∷ d8 ∷ d9 ∷ d10 ∷ d3 ∷ [])
    else if are_zeros 4 5 ds then Some (d1 ∷ d2 ∷ d3 ∷ d9 ∷ d10 ∷ 3 ∷ [])
    else if are_zeros 5 5 ds then Some (d1 ∷ d2 ∷ d3 ∷ d4 ∷ d10 ∷ 4 ∷ [])
    else if nat_le 5 d10 && are_zeros 6 4 ds then Some (d1 ∷ d2 ∷ d3 ∷ d4 ∷ d5 ∷ d10 ∷ []) else None

-- the sets of the six by the check digit: 0 for A and 1 for B
abbrev pub upce_table : List (List ℕ)
upce_table =
    numbers (codes "111000") ∷ numbers (codes "110100") ∷ numbers (codes "110010") ∷
    numbers (codes "110001") ∷ numbers (codes "101100") ∷ numbers (codes "100110") ∷
    numbers (codes "100011") ∷ numbers (codes "101010") ∷ numbers (codes "101001") ∷
    numbers (codes "100101") ∷ []

abbrev pub upce_sets : ℕ → List ℕ
upce_sets check = slice_index_or upce_table check []

-- the values of a symbol: number system and check digit, that of the long form, are told by the sets of the
-- six digits
abbrev pub upce_values : ℕ → List ℕ → List ℕ
upce_values check ds = told 0 ∷ guard_bars ∷ in_sets (upce_sets check) ds ++ end_bars ∷ told check ∷ []

-- the symbol of six digits
abbrev pub upce_short : Option (List ℕ) → Result Linear Fault
upce_short None = Err (Symbol Length)
upce_short (Some ds) = Ok (record {
  symbology = symbologies.UpcE;
  values = upce_values (mod10_check (long_form ds)) ds;
})

-- six digits behind that of number system 0
abbrev pub behind_system : List ℕ → Option (List ℕ)
behind_system ds = if slice_index ds 0 == 0 then Some (take 6 (drop 1 ds)) else None

-- six digits, these behind their number system, or the eleven of a UPC-A; one more that came is a check
-- digit, and not looked at
abbrev pub six_of_digits : List ℕ → Option (List ℕ)
six_of_digits ds = if length ds == 6 then Some ds
    else if is_count 7 (length ds) then behind_system ds
    else if is_count 11 (length ds) then short_form (take 11 ds) else None

-- or a maker's five and an article's five in number system 0
abbrev pub six_of : UpcEData → List ℕ → Option (List ℕ)
six_of Digits ds = six_of_digits ds
six_of MakerArticle ds = if length ds == 10 then short_form (0 ∷ ds) else six_of_digits ds

abbrev pub upce_symbol : UpcEData → Option (List ℕ) → Result Linear Fault
upce_symbol kind None = Err (Symbol Char)
upce_symbol kind (Some ds) = upce_short (six_of kind ds)

-- the symbol for these bytes, or why there is none
abbrev pub upce_of : List ℕ → UpcEData → Result Linear Fault
upce_of src kind = within_length src (upce_symbol kind (values_among digits src))
