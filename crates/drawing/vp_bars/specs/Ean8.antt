-- EAN-8 (ISO/IEC 15420).
use Rattle.std.specs.Prelude.{ℕ, Bool, List, length, Option, None, Some, Result, Ok, Err, if◌then◌else◌}
use Rattle.vp_dots.specs.declared.fault.Fault.{Fault}
use Rattle.vp_dots.specs.declared.fault.Fault.TheVariants.{Symbol}
use Rattle.vp_dots.specs.declared.fault.Why.TheVariants.{Char, Length}
use Rattle.vp_bars.specs.declared.symbology.Symbology.TheVariants as symbologies
use Rattle.vp_bars.specs.Symbols.{Linear, within_length}
use Rattle.vp_bars.specs.Signs.{digits, values_among}
use Rattle.vp_bars.specs.Upc.{padded, is_count, checked, halves}

-- seven digits and their check digit, four in number set A and four in C
abbrev pub ean8_digits : List ℕ → Result Linear Fault
ean8_digits ds = if is_count 7 (length ds) then Ok (record {
  symbology = symbologies.Ean8;
  values = halves 4 (checked 7 ds);
}) else Err (Symbol Length)

abbrev pub ean8_symbol : Bool → Option (List ℕ) → Result Linear Fault
ean8_symbol pad None = Err (Symbol Char)
ean8_symbol pad (Some ds) = ean8_digits (padded pad 7 ds)

-- the symbol for these bytes, or why there is none
abbrev pub ean8_of : List ℕ → Bool → Result Linear Fault
ean8_of src pad = within_length src (ean8_symbol pad (values_among digits src))
