-- Lines of dots on lines of places.
use Rattle.std.specs.Prelude.{◌≡◌, ℕ, ◌-◌, ◌*◌, ◌<◌, ℤ, pos, neg_ℤ, ◌-ℤ◌, ◌≤ℤ◌, Bool, false, Option, option_map, unwrap_or}
use Rattle.vp_dots.specs.Dots.{span}
use Rattle.vp_field.specs.declared.axis.Axis.{Axis}
use Rattle.vp_field.specs.declared.axis.Axis.TheVariants.{Forward, Back}
use Rattle.vp_field.specs.declared.axis.Lines.{Lines}
use Rattle.vp_field.specs.declared.axis.Lines.TheVariants.{Along, Across}
use Rattle.vp_field.specs.Places.{at_place}
use Rattle.vp_zpl.specs.declared.item.Orientation.{Orientation}
use Rattle.vp_zpl.specs.declared.item.Orientation.TheVariants.{Normal, Rotated, Inverted, BottomUp}

-- the dot of the line that lies on a place
abbrev pub dot_on : Axis → ℤ → ℤ
dot_on (Forward at) p = p -ℤ at
dot_on (Back at) p = at -ℤ p

-- which of n dots in a row lies on the p-th of as many places
abbrev pub read_at : Axis → ℕ → ℕ → ℕ
read_at (Forward at) n p = p
read_at (Back at) n p = n - 1 - p

-- a line begins no farther than `n` places from the first
abbrev pub IsWithin : ℕ → Axis → Type 0
IsWithin n (Forward at) = (neg_ℤ (pos n) ≤ℤ at) × (at ≤ℤ pos n)
IsWithin n (Back at) = (neg_ℤ (pos n) ≤ℤ at) × (at ≤ℤ pos n)

-- where the lines of what is turned so lie
abbrev pub lines_of : Orientation → Lines
lines_of Normal = Along
lines_of Rotated = Across
lines_of Inverted = Along
lines_of BottomUp = Across

-- the ink at a place, where the lines of the ink lie along its rows or across them
abbrev pub laid : Lines → Axis → Axis → (ℕ → ℕ → Bool) → ℤ → ℤ → Bool
laid Along columns rows ink x y = at_place (λ v. at_place (λ u. ink u v) (dot_on columns x)) (dot_on rows y)
laid Across columns rows ink x y = at_place (λ v. at_place (λ u. ink u v) (dot_on rows y)) (dot_on columns x)

-- dot x of a row that shows a line of the ink, if it shows one
abbrev pub shown_dot : (ℕ → ℕ → Bool) → Axis → Option ℕ → ℕ → Bool
shown_dot ink columns line x =
    unwrap_or (option_map (λ v. at_place (λ u. ink u v) (dot_on columns (pos x))) line) false

-- no line of the ink has a dot on so many columns of a band but on the bytes from one to another
abbrev pub AreWhiteBeside : (ℕ → ℕ → Bool) → Axis → ℕ → ℕ → ℕ → Type 0
AreWhiteBeside ink columns seen from to =
    (v p : ℕ) → p < seen → span (8 * from) (8 * to) p ≡ false
    → at_place (λ u. ink u v) (dot_on columns (pos p)) ≡ false
