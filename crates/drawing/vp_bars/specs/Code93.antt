-- Code 93 (AIM BC5).
use Rattle.std.specs.Prelude.{ℕ, ◌-◌, ◌%◌, ◌==◌, Bool, List, [], ◌∷◌, ◌++◌, length, take, codes, nat_lt, slice_index, slice_index_or, Option, None, Some, Result, Ok, Err, if◌then◌else◌}
use Rattle.std.specs.List.{list_all, flat_map}
use Prim.Native.Char.{code}
use Rattle.vp_dots.specs.declared.fault.Fault.{Fault}
use Rattle.vp_dots.specs.declared.fault.Fault.TheVariants.{Symbol, SymbolTooLong}
use Rattle.vp_dots.specs.declared.fault.Why.TheVariants.{Char}
use Rattle.vp_bar_code.specs.declared.Code93Data.{Code93Data}
use Rattle.vp_bar_code.specs.declared.Code93Data.TheVariants.{Signs, Ascii}
use Rattle.vp_bars.specs.declared.bars.TheConstants.{DATA_BYTES}
use Rattle.vp_bars.specs.declared.symbology.Symbology.{Symbology}
use Rattle.vp_bars.specs.declared.symbology.Symbology.TheVariants as symbologies
use Rattle.vp_bars.specs.Symbols.{Linear, within_length}
use Rattle.vp_bars.specs.Patterns.{numbers}
use Rattle.vp_bars.specs.Signs.{values_among, signs_of}
use Rattle.vp_bars.specs.Checks.{weighed}

-- the 43 characters of Code 39, and behind them the four shifts, which data name by & ' ( and )
abbrev pub code93_signs : List ℕ
code93_signs = codes "0123456789ABCDEFGHIJKLMNOPQRSTUVWXYZ-. $/+%&'()"

-- the widths of the six elements of each character, in modules
abbrev pub code93_table : List (List ℕ)
code93_table =
    numbers (codes "131112") ∷ numbers (codes "111213") ∷ numbers (codes "111312") ∷
    numbers (codes "111411") ∷ numbers (codes "121113") ∷ numbers (codes "121212") ∷
    numbers (codes "121311") ∷ numbers (codes "111114") ∷ numbers (codes "131211") ∷
    numbers (codes "141111") ∷ numbers (codes "211113") ∷ numbers (codes "211212") ∷
    numbers (codes "211311") ∷ numbers (codes "221112") ∷ numbers (codes "221211") ∷
    numbers (codes "231111") ∷ numbers (codes "112113") ∷ numbers (codes "112212") ∷
    numbers (codes "112311") ∷ numbers (codes "122112") ∷ numbers (codes "132111") ∷
    numbers (codes "111123") ∷ numbers (codes "111222") ∷ numbers (codes "111321") ∷
    numbers (codes "121122") ∷ numbers (codes "131121") ∷ numbers (codes "212112") ∷
    numbers (codes "212211") ∷ numbers (codes "211122") ∷ numbers (codes "211221") ∷
    numbers (codes "221121") ∷ numbers (codes "222111") ∷ numbers (codes "112122") ∷
    numbers (codes "112221") ∷ numbers (codes "122121") ∷ numbers (codes "123111") ∷
    numbers (codes "121131") ∷ numbers (codes "311112") ∷ numbers (codes "311211") ∷
    numbers (codes "321111") ∷ numbers (codes "112131") ∷ numbers (codes "113121") ∷
    numbers (codes "211131") ∷ numbers (codes "121221") ∷ numbers (codes "312111") ∷
    numbers (codes "311121") ∷ numbers (codes "122211") ∷ []

abbrev pub code93_pattern : ℕ → List ℕ
code93_pattern v = slice_index_or code93_table v []

-- start, and stop with the bar that ends a symbol
abbrev pub code93_start : List ℕ
code93_start = numbers (codes "111141")

abbrev pub code93_stop : List ℕ
code93_stop = numbers (codes "1111411")

-- C weighs the values by 1 to 20, and K those with C by 1 to 15
abbrev pub with_c : List ℕ → List ℕ
with_c vs = vs ++ weighed 1 20 vs % 47 ∷ []

abbrev pub with_k : List ℕ → List ℕ
with_k vs = vs ++ weighed 1 15 vs % 47 ∷ []

abbrev pub code93_symbol : Symbology → Option (List ℕ) → Result Linear Fault
code93_symbol symbology None = Err (Symbol Char)
code93_symbol symbology (Some vs) = Ok (record { symbology = symbology; values = with_k (with_c vs) })

-- the shift of each character of ASCII, or a blank where it has none, and its sign or letter (table 3)
abbrev pub ascii_shifts : List ℕ
ascii_shifts = codes "'&&&&&&&&&&&&&&&&&&&&&&&&&&''''' (((  ((((( (             ('''''"
    ++ codes "'                          ''''''))))))))))))))))))))))))))'''''"

abbrev pub ascii_letters : List ℕ
ascii_letters = codes "UABCDEFGHIJKLMNOPQRSTUVWXYZABCDE ABC$%FGHIJ+L-./0123456789ZFGHIJ"
    ++ codes "VABCDEFGHIJKLMNOPQRSTUVWXYZKLMNOWABCDEFGHIJKLMNOPQRSTUVWXYZPQRST"

abbrev pub ascii_signs : ℕ → List ℕ
ascii_signs c = if slice_index ascii_shifts c == code " " then slice_index ascii_letters c ∷ []
    else slice_index ascii_shifts c ∷ slice_index ascii_letters c ∷ []

abbrev pub spelled : List ℕ → List ℕ
spelled src = flat_map ascii_signs src

abbrev pub is_ascii : List ℕ → Bool
is_ascii src = list_all (λ c. nat_lt c 128) src

-- data of ASCII have no more signs than other data
abbrev pub ascii_symbol : List ℕ → Result Linear Fault
ascii_symbol src = if is_ascii src then (if nat_lt DATA_BYTES (length (spelled src)) then Err SymbolTooLong
    else code93_symbol symbologies.Code93Ascii (values_among code93_signs (spelled src)))
    else Err (Symbol Char)

abbrev pub code93_for : Code93Data → List ℕ → Result Linear Fault
code93_for Signs src = code93_symbol symbologies.Code93 (values_among code93_signs src)
code93_for Ascii src = ascii_symbol src

-- the symbol for these bytes, or why there is none
abbrev pub code93_of : List ℕ → Code93Data → Result Linear Fault
code93_of src kind = within_length src (code93_for kind src)

-- the text is of the data without C and K
abbrev pub without_checks : List ℕ → List ℕ
without_checks vs = take (length vs - 2) vs

abbrev pub code93_shown : List ℕ → List ℕ
code93_shown vs = signs_of code93_signs (without_checks vs)

-- what the letters A to Z are behind a shift: a blank for a control character
abbrev pub letters_behind : ℕ → List ℕ
letters_behind shift =
    if shift == 44 then codes "     ;<=>?[\\]^_{|}~  @`   "
    else if shift == 45 then codes "!\"#$%&'()*+,-./0123456789:"
    else if shift == 46 then codes "abcdefghijklmnopqrstuvwxyz" else []

-- what a value shows behind a shift, or behind none, which is 0
abbrev pub shown_behind : ℕ → ℕ → ℕ
shown_behind shift v = if shift == 0 then slice_index code93_signs v
    else slice_index_or (letters_behind shift) (v - 10) (code " ")

abbrev pub text_behind : ℕ → ℕ → List ℕ
text_behind shift v = if nat_lt v 43 then shown_behind shift v ∷ [] else []

-- the shift behind a value
abbrev pub shift_behind : ℕ → ℕ
shift_behind v = if nat_lt v 43 then 0 else v

-- what values show, the first of them behind a shift
abbrev pub ascii_from : ℕ → List ℕ → List ℕ
ascii_from shift [] = []
ascii_from shift (v ∷ vs) = text_behind shift v ++ ascii_from (shift_behind v) vs

abbrev pub ascii_shown : List ℕ → List ℕ
ascii_shown vs = ascii_from 0 (without_checks vs)
