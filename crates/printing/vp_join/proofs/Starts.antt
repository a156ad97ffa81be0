-- Texts that begin no image.
use Rattle.std.proofs.Common.{arith, ◌≡◌, ◌≢◌, ℕ, List, ◌∷◌}
use Rattle.std.proofs.lemmas.Grind.{common_steps}
use Rattle.vp_join.specs.Told.{Seen, images, stops}
use Rattle.vp_join.specs.declared.fault.Offence.TheVariants.{Header}

pub no_first : (so : Seen) (a : ℕ) (text : List ℕ) → a ≢ 80 → images so (a ∷ text) ≡ stops so Header
no_first so a text h = grind (arith, common_steps)

pub no_second : (so : Seen) (b : ℕ) (text : List ℕ) → b ≢ 52 → images so (80 ∷ b ∷ text) ≡ stops so Header
no_second so b text h = grind (arith, common_steps)
