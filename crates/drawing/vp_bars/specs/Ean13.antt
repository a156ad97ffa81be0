-- EAN-13 (ISO/IEC 15420).
use Rattle.std.specs.Prelude.{ℕ, ◌+◌, ◌-◌, ◌*◌, ◌%◌, ◌==◌, Bool, true, false, ◌||◌, List, [], ◌∷◌, ◌++◌, length, take, map, replicate, Result, Ok, Err, if◌then◌else◌}
use Rattle.std.specs.Char.{is_ascii_digit}
use Rattle.std.specs.List.{list_all}
use Rattle.vp_dots.specs.declared.fault.Fault.{Fault}
use Rattle.vp_dots.specs.declared.fault.Fault.TheVariants.{Symbol}
use Rattle.vp_dots.specs.declared.fault.Why.TheVariants.{Char, Length}
use Rattle.vp_bars.specs.declared.symbology.Symbology.TheVariants as symbologies
use Rattle.vp_bars.specs.Symbols.{Linear, within_length}

-- the digits weighted 1, 3, 1 and so on, or 3, 1, 3
abbrev pub weighted : ℕ → List ℕ → ℕ
weighted weight [] = 0
weighted weight (d ∷ ds) = weight * d + weighted (4 - weight) ds

-- the check digit of 12 digits: what their sum, weighted 1 and 3 in turn from the left, lacks to a multiple
-- of 10
abbrev pub ean13_check : List ℕ → ℕ
ean13_check ds = (10 - weighted 1 ds % 10) % 10

-- padded, fewer than 12 digits get zeros on the left, and of more the first 12 stand
abbrev pub padded : Bool → List ℕ → List ℕ
padded false ds = ds
padded true ds = take 12 (replicate (12 - length ds) 0 ++ ds)

abbrev pub with_check : List ℕ → List ℕ
with_check ds = ds ++ ean13_check ds ∷ []

-- 12 digits, or 13, or any count that is padded
abbrev pub is_count : ℕ → Bool → Bool
is_count count pad = pad || (count == 12 || count == 13)

-- 12 digits and their check digit; a thirteenth that came is not looked at
abbrev pub ean13_symbol : List ℕ → Result Linear Fault
ean13_symbol ds = if is_count (length ds) false then Ok
    (record { symbology = symbologies.Ean13; values = with_check (take 12 ds) }) else Err (Symbol Length)

abbrev pub digits_of : List ℕ → List ℕ
digits_of src = map (λ c. c - 48) src

abbrev pub ean13_for : List ℕ → Bool → Result Linear Fault
ean13_for src pad = if list_all is_ascii_digit src then ean13_symbol (padded pad (digits_of src))
    else Err (Symbol Char)

-- the symbol for these bytes, or why there is none
abbrev pub ean13_of : List ℕ → Bool → Result Linear Fault
ean13_of src pad = within_length src (ean13_for src pad)
