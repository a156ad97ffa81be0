-- MSI.
use Rattle.std.specs.Prelude.{ℕ, ◌+◌, ◌-◌, ◌*◌, ◌==◌, Bool, true, false, List, [], ◌∷◌, ◌++◌, map, reverse, nat_lt, codes, slice_index_or, Option, Some, Result, Ok, Err, if◌then◌else◌}
use Rattle.std.specs.Prelude as prelude
use Rattle.std.specs.List.{flat_map}
use Rattle.vp_dots.specs.declared.fault.Fault.{Fault}
use Rattle.vp_dots.specs.declared.fault.Fault.TheVariants.{Symbol}
use Rattle.vp_dots.specs.declared.fault.Why.TheVariants.{Char}
use Rattle.vp_bar_code.specs.declared.MsiChecks.{MsiChecks}
use Rattle.vp_bar_code.specs.declared.MsiChecks.TheVariants.{None, Mod10, Mod10Twice, Mod11Mod10}
use Rattle.vp_bars.specs.declared.symbology.Symbology.TheVariants as symbologies
use Rattle.vp_bars.specs.Symbols.{Linear, within_length}
use Rattle.vp_bars.specs.Patterns.{numbers}
use Rattle.vp_bars.specs.Signs.{digits, values_among}
use Rattle.vp_bars.specs.Checks.{lacking, weighed}

-- the four bits of each digit
abbrev pub bits_table : List (List ℕ)
bits_table =
    numbers (codes "0000") ∷ numbers (codes "0001") ∷ numbers (codes "0010") ∷
    numbers (codes "0011") ∷ numbers (codes "0100") ∷ numbers (codes "0101") ∷
    numbers (codes "0110") ∷ numbers (codes "0111") ∷ numbers (codes "1000") ∷
    numbers (codes "1001") ∷ []

-- a bit is a bar and a space, of which the bar is wide for a 1, and the space for a 0
abbrev pub bit_elements : ℕ → List ℕ
bit_elements m = if m == 1 then 1 ∷ 0 ∷ [] else 0 ∷ 1 ∷ []

abbrev pub msi_table : List (List ℕ)
msi_table = map (λ bits. flat_map bit_elements bits) bits_table

abbrev pub msi_pattern : ℕ → List ℕ
msi_pattern d = slice_index_or msi_table d []

-- the sum of the digits of twice a digit
abbrev pub doubled : ℕ → ℕ
doubled d = if nat_lt d 5 then 2 * d else 2 * d - 9

-- every other digit doubled: the first one, or the second
abbrev pub doubled_sum : Bool → List ℕ → ℕ
doubled_sum twice [] = 0
doubled_sum true (d ∷ ds) = doubled d + doubled_sum false ds
doubled_sum false (d ∷ ds) = d + doubled_sum true ds

-- the check digit modulo 10 behind digits: the last one is doubled, the one before it isn't, and so on
abbrev pub with_mod10 : List ℕ → List ℕ
with_mod10 ds = ds ++ lacking 10 (doubled_sum true (reverse ds)) ∷ []

-- the check digit modulo 11 by the weights 2 to 7: 10 is spelled with two digits
abbrev pub mod11_digits : ℕ → List ℕ
mod11_digits check = if check == 10 then 1 ∷ 0 ∷ [] else check ∷ []

abbrev pub with_mod11 : List ℕ → List ℕ
with_mod11 ds = ds ++ mod11_digits (lacking 11 (weighed 2 7 ds))

abbrev pub msi_checked : MsiChecks → List ℕ → List ℕ
msi_checked None ds = ds
msi_checked Mod10 ds = with_mod10 ds
msi_checked Mod10Twice ds = with_mod10 (with_mod10 ds)
msi_checked Mod11Mod10 ds = with_mod10 (with_mod11 ds)

abbrev pub msi_for : MsiChecks → Option (List ℕ) → Result Linear Fault
msi_for checks prelude.None = Err (Symbol Char)
msi_for checks (Some ds) = Ok (record { symbology = symbologies.Msi; values = msi_checked checks ds })

-- the symbol for these bytes, or why there is none
abbrev pub msi_of : List ℕ → MsiChecks → Result Linear Fault
msi_of src checks = within_length src (msi_for checks (values_among digits src))
