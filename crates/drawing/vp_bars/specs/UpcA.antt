-- UPC-A (ISO/IEC 15420).
use Rattle.std.specs.Prelude.{ℕ, Bool, List, length, Option, None, Some, Result, Ok, Err, if◌then◌else◌}
use Rattle.vp_dots.specs.declared.fault.Fault.{Fault}
use Rattle.vp_dots.specs.declared.fault.Fault.TheVariants.{Symbol}
use Rattle.vp_dots.specs.declared.fault.Why.TheVariants.{Char, Length}
use Rattle.vp_bars.specs.declared.symbology.Symbology.TheVariants as symbologies
use Rattle.vp_bars.specs.Symbols.{Linear, within_length}
use Rattle.vp_bars.specs.Signs.{digits, values_among}
use Rattle.vp_bars.specs.Upc.{padded, is_count, checked, halves}

-- eleven digits and their check digit, six in number set A and six in C
abbrev pub upca_digits : List ℕ → Result Linear Fault
upca_digits ds = if is_count 11 (length ds) then Ok (record {
  symbology = symbologies.UpcA;
  values = halves 6 (checked 11 ds);
}) else Err (Symbol Length)

abbrev pub upca_symbol : Bool → Option (List ℕ) → Result Linear Fault
upca_symbol pad None = Err (Symbol Char)
upca_symbol pad (Some ds) = upca_digits (padded pad 11 ds)

-- the symbol for these bytes, or why there is none
abbrev pub upca_of : List ℕ → Bool → Result Linear Fault
upca_of src pad = within_length src (upca_symbol pad (values_among digits src))
