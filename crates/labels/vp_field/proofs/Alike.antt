-- Lines next to each other that show the same.
use Rattle.std.proofs.Common.{◌≡◌, ℕ, ◌+◌, ◌≤◌, Bool, false, Option, arith, ℤ, pos}
use Rattle.std.specs.Prelude.{option_map, unwrap_or}
use Rattle.std.proofs.lemmas.Int.{ints}
use Rattle.vp_field.specs.declared.axis.Axis.TheVariants.{Forward, Back}
use Rattle.vp_field.specs.Places.{at_place}
use Rattle.vp_field.specs.Axes.{dot_on}
use Rattle.vp_field.proofs.Places.{at_none}

-- the dots of ink at a place of either sign, on the place that one of its lines lies on
pub line_shown : (ink : ℕ → ℕ → Bool) (y : ℤ) (v : ℕ) → ((u : ℕ) → at_place (λ w. ink u w) y ≡ ink u v)
    → (z : ℤ) → at_place (λ w. at_place (λ u. ink u w) z) y ≡ at_place (λ u. ink u v) z
line_shown ink y v h1 z = grind (arith, at_none)

-- places that show lines like that on the first
pub run_forward : (at : ℤ) (v first last : ℕ) → first ≤ v → (line : ℕ → Bool) (p : ℕ) → dot_on (Forward at) (pos p) ≡ pos v
    → ((w : ℕ) → first ≤ w → w ≤ last → line w ≡ line v) → (j : ℕ) → v + j ≤ last → at_place line (dot_on (Forward at) (pos (p + j))) ≡ at_place line (dot_on (Forward at) (pos p))
run_forward at v first last f line p d h j l = grind (arith, ints)

pub run_back : (at : ℤ) (v first last : ℕ) → v ≤ last → (line : ℕ → Bool) (p : ℕ) → dot_on (Back at) (pos p) ≡ pos v
    → ((w : ℕ) → first ≤ w → w ≤ last → line w ≡ line v) → (j : ℕ) → first + j ≤ v → at_place line (dot_on (Back at) (pos (p + j))) ≡ at_place line (dot_on (Back at) (pos p))
run_back at v first last n line p d h j l = grind (arith, ints)

-- where no line shows a dot, none that may be there does
pub no_line : (shows : ℕ → Bool) (line : Option ℕ) → ((v : ℕ) → shows v ≡ false) → unwrap_or (option_map shows line) false ≡ false
no_line shows line h1 = grind arith
