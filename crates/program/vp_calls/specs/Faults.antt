-- Faults as numbers, and back.
use Rattle.std.specs.Prelude.{ℕ, ◌==◌, if◌then◌else◌, Option, None, Some}
use Rattle.vp_dots.specs.Faults.{number_of}
use Rattle.vp_dots.specs.declared.fault.Fault.{Fault}
use Rattle.vp_dots.specs.declared.fault.Fault.TheVariants.{Unknown, Symbol, SymbolTooLong, SymbolTooWide, FieldsFull, StoreFull, Graphic, Truncated, Unprinted}
use Rattle.vp_dots.specs.declared.fault.Why.{Why}
use Rattle.vp_dots.specs.declared.fault.Why.TheVariants.{Empty, Char, Length, CodeSet, Unsupported}
use Rattle.vp_calls.specs.declared.fault.FaultOfC.{FaultOfC}

abbrev pub no_fault : FaultOfC
no_fault = record { number = 0; why = 0; lead = 0; byte = 0 }

abbrev pub why_of : Why → ℕ
why_of Empty = 1
why_of Char = 2
why_of Length = 3
why_of CodeSet = 4
why_of Unsupported = 5

-- its number, and beside it the two bytes of an unknown command, or why a symbol's data are refused
abbrev pub in_c : Fault → FaultOfC
in_c (Unknown lead byte) = record no_fault { number = 1; lead = lead; byte = byte }
in_c (Symbol why) = record no_fault { number = 2; why = why_of why }
in_c SymbolTooLong = record no_fault { number = number_of SymbolTooLong }
in_c SymbolTooWide = record no_fault { number = number_of SymbolTooWide }
in_c FieldsFull = record no_fault { number = number_of FieldsFull }
in_c StoreFull = record no_fault { number = number_of StoreFull }
in_c Graphic = record no_fault { number = number_of Graphic }
in_c Truncated = record no_fault { number = number_of Truncated }
in_c Unprinted = record no_fault { number = number_of Unprinted }

abbrev pub maybe_in_c : Option Fault → FaultOfC
maybe_in_c None = no_fault
maybe_in_c (Some fault) = in_c fault

-- the refusal of a symbol's data that a number tells of
abbrev pub symbol_from : ℕ → Option Fault
symbol_from why =
    if why == 1 then Some (Symbol Empty) else
    if why == 2 then Some (Symbol Char) else
    if why == 3 then Some (Symbol Length) else
    if why == 4 then Some (Symbol CodeSet) else
    if why == 5 then Some (Symbol Unsupported) else
    None

-- the fault that numbers tell of, which may be any
abbrev pub from_c : FaultOfC → Option Fault
from_c fault =
    if fault.number == 1 then Some (Unknown fault.lead fault.byte) else
    if fault.number == 2 then symbol_from fault.why else
    if fault.number == 3 then Some SymbolTooLong else
    if fault.number == 4 then Some SymbolTooWide else
    if fault.number == 5 then Some FieldsFull else
    if fault.number == 6 then Some StoreFull else
    if fault.number == 7 then Some Graphic else
    if fault.number == 8 then Some Truncated else
    if fault.number == 9 then Some Unprinted else
    None
