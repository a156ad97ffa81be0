-- The free modules of each version, counted.
use Rattle.std.proofs.Common.{◌≡◌, ℕ, ◌+◌, ◌*◌, ◌≤◌, Bool, true, eqb, length, refl}
use Rattle.std.proofs.lemmas.Bool.{eqb-true}
use Rattle.vp_qr.specs.Places.{reserved}
use Rattle.vp_qr.specs.Blocks.{total, remainder_bits}
use Rattle.vp_qr.specs.Walk.{free_places, walk, pairs, upwards, downwards}
use Rattle.vp_qr.proofs.FieldLaws.{passes_below}
use Rattle.vp_qr.proofs.WalkOrder.{for_version}

abbrev counts : ℕ → Bool
counts v = eqb (length (free_places v)) (8 * total v + remainder_bits v)

all_count : passes_below 10 (λ k. counts (k + 1)) ≡ true
unfolding free_places walk pairs upwards downwards reserved
all_count = refl

pub free_count : (v : ℕ) → 1 ≤ v → v ≤ 10 → length (free_places v) ≡ 8 * total v + remainder_bits v
free_count v low high = eqb-true _ _ (for_version counts all_count v low high)
