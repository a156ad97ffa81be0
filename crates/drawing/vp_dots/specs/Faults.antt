-- The numbers of the faults.
use Rattle.std.specs.Prelude.{ℕ}
use Rattle.vp_dots.specs.declared.fault.Fault.{Fault}
use Rattle.vp_dots.specs.declared.fault.Fault.TheVariants.{Unknown, Symbol, SymbolTooLong, SymbolTooWide, FieldsFull, StoreFull, Graphic, Truncated, Unprinted}

-- the number by which a fault is reported
abbrev pub number_of : Fault → ℕ
number_of (Unknown lead byte) = 1
number_of (Symbol why) = 2
number_of SymbolTooLong = 3
number_of SymbolTooWide = 4
number_of FieldsFull = 5
number_of StoreFull = 6
number_of Graphic = 7
number_of Truncated = 8
number_of Unprinted = 9
