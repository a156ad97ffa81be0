-- Many dots of a row made black.
use Rattle.std.proofs.Common.{◌≡◌, ℕ, ◌+◌, ◌/◌, ◌<◌, ◌≤◌, Bool, true, eqb, ◌&&◌, refl, arith, List, length, get_or, replicate}
use Rattle.std.specs.Int.{bit_at}
use Rattle.std.proofs.lemmas.List.{get_or-replicate, length-replicate}
use lib.Lanes.{put_chunk}
use Rattle.vp_dots.specs.Dots.{bit, span}
use Rattle.vp_dots.specs.Painting.{Painted}
use Rattle.vp_dots.specs.declared.Op.TheVariants.{Black}
use Rattle.vp_dots.proofs.Blocks.{painted_block}
use Rattle.vp_dots.proofs.Paints.{painted_same}
use Rattle.vp_dots.proofs.Swaps.{every_at}

and_all : (b : Bool) → (b && true) ≡ b
and_all b = grind arith

black_lane : (n j k : ℕ) → j < n → k < 8 → bit (get_or (replicate n 255) j 0) k ≡ true
unfolding bit
black_lane n j k m h = rw (get_or-replicate {A = ℕ} n j 255 0 m) (every_at 8 (λ n. eqb (bit_at 255 n) 1) refl k h)

-- n black bytes
pub black_block : (n i : ℕ) (row : List ℕ) → i + n ≤ length row → Painted Black (λ d. span i (i + n) (d / 8)) row (put_chunk i row (replicate n 255))
black_block n i row room = painted_same Black (λ d. span i (i + n) (d / 8) && true) (λ d. span i (i + n) (d / 8)) row _ (λ d l. and_all (span i (i + n) (d / 8)))
    (painted_block Black (λ d. true) i n row (replicate n 255) (length-replicate {A = ℕ} n 255) room (λ j m k h. black_lane n j k m h))
