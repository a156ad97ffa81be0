-- Characters that are alike wide: all that a symbology has, but for the stop of Code 128, or none, where they
-- differ.
use Rattle.std.specs.Prelude.{◌≡◌, ℕ, ◌+◌, ◌*◌, ◌≤◌, Bool, true, false, nat_lt, List, length, take}
use Rattle.std.specs.List.{All}
use Rattle.vp_bars.specs.declared.symbology.Symbology.{Symbology}
use Rattle.vp_bars.specs.declared.symbology.Symbology.TheVariants.{Code39, Ean13, Code128, Interleaved, Msi, Code93, Code93Ascii}
use Rattle.vp_bars.specs.Symbologies.{gap_of}
use Rattle.vp_bars.specs.Widths.{sized, total}

-- whether a value has one of them
abbrev pub is_regular : Symbology → ℕ → Bool
is_regular Code39 v = nat_lt v 44
is_regular Ean13 v = nat_lt v 10
is_regular Code128 v = nat_lt v 106
is_regular Interleaved v = nat_lt v 100
is_regular Msi v = nat_lt v 10
is_regular Code93 v = nat_lt v 47
is_regular Code93Ascii v = nat_lt v 47
is_regular _ v = false

abbrev pub IsRegular : Symbology → ℕ → Type 0
IsRegular symbology v = is_regular symbology v ≡ true

-- so many values, from the first on, have one each
pub record AreRegular (symbology : Symbology) (count : ℕ) (values : List ℕ) : Type 0 where
  pub within : count ≤ length values
  pub each : All (IsRegular symbology) (take count values)

-- how wide each of them is: three of nine elements are wide, four of ten or of eight, or it has so many
-- modules
abbrev pub regular_width : Symbology → ℕ → ℕ → ℕ
regular_width Code39 narrow wide = 6 * narrow + 3 * wide
regular_width Ean13 narrow wide = 7 * narrow
regular_width Code128 narrow wide = 11 * narrow
regular_width Interleaved narrow wide = 6 * narrow + 4 * wide
regular_width Msi narrow wide = 4 * narrow + 4 * wide
regular_width Code93 narrow wide = 9 * narrow
regular_width Code93Ascii narrow wide = 9 * narrow
regular_width _ narrow wide = 0

-- and with the gap before it
abbrev pub step_of : Symbology → ℕ → ℕ → ℕ
step_of symbology narrow wide = total (sized symbology narrow wide (gap_of symbology))
    + regular_width symbology narrow wide
