-- The stream as one list of units and a rest.
use Rattle.std.specs.Prelude.{ℕ, Bool, true, false, Option, List, [], ◌∷◌, ◌++◌, flat_map}
use Rattle.vp_esc.specs.declared.reading.Reading.{Reading}
use Rattle.vp_esc.specs.declared.item.EscItem.{EscItem}
use Rattle.vp_dots.specs.declared.fault.Fault.{Fault}
use Rattle.vp_esc.specs.Units.{is_unfinished, given, fault_in}

pub record Split : Type 0 where
  pub units : List (List ℕ)
  pub rest : List ℕ

abbrev pub with_rest : List (List ℕ) → List ℕ → Bool → Split
with_rest units rest true = record { units = units; rest = rest }
with_rest units rest false = record { units = units ++ rest ∷ []; rest = [] }

-- one more byte: the rest with it, a unit where that is whole
abbrev pub with_byte : Reading → Split → ℕ → Split
with_byte reading s c = with_rest s.units (s.rest ++ c ∷ []) (is_unfinished reading (s.rest ++ c ∷ []))

unfoldable pub split_on : Reading → Split → List ℕ → Split
split_on reading s [] = s
split_on reading s (b ∷ bytes) = split_on reading (with_byte reading s b) bytes

-- Each unit is the shortest front of what is left that is whole.
unfoldable pub split : Reading → List ℕ → Split
split reading bytes = split_on reading (record { units = []; rest = [] }) bytes

-- the items of the units, and those that the rest has already given
unfoldable pub items : Reading → List ℕ → List EscItem
items reading bytes =
    flat_map (given reading) (split reading bytes).units ++ given reading (split reading bytes).rest

-- the fault where a byte makes every unit impossible
unfoldable pub fault_of : Reading → List ℕ → Option Fault
fault_of reading bytes = fault_in reading (split reading bytes).rest
