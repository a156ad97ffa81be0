-- Linear symbols: the values of their characters, or why data have none.
use Rattle.std.specs.Prelude.{ℕ, List, [], ◌∷◌, length, nat_lt, Result, Err, if◌then◌else◌}
use Rattle.vp_dots.specs.declared.fault.Fault.{Fault}
use Rattle.vp_dots.specs.declared.fault.Fault.TheVariants.{Symbol, SymbolTooLong}
use Rattle.vp_dots.specs.declared.fault.Why.TheVariants.{Empty}
use Rattle.vp_bars.specs.declared.bars.TheConstants.{DATA_BYTES}
use Rattle.vp_bars.specs.declared.symbology.Symbology.{Symbology}

-- a symbol: the values of its characters from the left, with starts, check and stops
pub record Linear : Type 0 where
  pub symbology : Symbology
  pub values : List ℕ

-- no data and data of more than 255 bytes are refused before what the bytes are
abbrev pub within_length : List ℕ → Result Linear Fault → Result Linear Fault
within_length [] symbol = Err (Symbol Empty)
within_length (b ∷ bytes) symbol =
    if nat_lt DATA_BYTES (length (b ∷ bytes)) then Err SymbolTooLong else symbol
