use Rattle.std.proofs.Common.{◌≡◌, ℕ, ◌+◌, ◌*◌, ◌/◌, ◌%◌, List, [], ◌∷◌, refl, ap}
use Rattle.vp_packed.specs.declared.sign.Place.TheVariants.{First}
use Rattle.vp_packed.specs.Base64.{bytes_from}
use Rattle.vp_packed.proofs.laws.groups_of_four.Goals as goal

-- a group knows nothing of the one before it
alone : (last : ℕ) (vs : List ℕ) → bytes_from First last vs ≡ bytes_from First 0 vs
unfolding bytes_from
alone last [] = refl
alone last (v ∷ vs) = refl

pub returns-clause-four : goal.returns-clause-four
unfolding bytes_from
returns-clause-four c = λ a b d e rest.
    ap (λ (l : List ℕ). (4 * a + b / 16) ∷ (b % 16 * 16 + d / 4) ∷ (d % 4 * 64 + e) ∷ l) (alone e rest)

pub returns-clause-three : goal.returns-clause-three
unfolding bytes_from
returns-clause-three c = λ a b d. refl

pub returns-clause-two : goal.returns-clause-two
unfolding bytes_from
returns-clause-two c = λ a b. refl
