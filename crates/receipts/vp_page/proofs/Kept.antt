-- The dots of rows that a wipe keeps.
use Rattle.std.proofs.Common.{◌≡◌, ℕ, ◌+◌, ◌-◌, ◌*◌, ◌/◌, ◌%◌, ◌<◌, ◌≤◌, true, not, eqb, ◌&&◌, refl, arith, List, length, replicate, bit_and}
use Rattle.std.specs.Int.{bit_at}
use lib.Lanes.{zip2, chunk, put_chunk}
use Rattle.std.proofs.lemmas.Simd.{get_or-zip2, get_or-chunk, length-chunk}
use Rattle.std.proofs.lemmas.List.{get_or-replicate, length-replicate}
use Rattle.vp_dots.specs.Dots.{bit, dot, span}
use Rattle.vp_dots.specs.Painting.{Painted}
use Rattle.vp_dots.specs.declared.Op.TheVariants.{White}
use Rattle.vp_dots.proofs.Blocks.{painted_block}
use Rattle.vp_dots.proofs.Rows.{dot_at}
use Rattle.vp_dots.proofs.Spans.{bit_of_and}
use Rattle.vp_dots.proofs.Swaps.{every_at}
use Rattle.vp_page.proofs.WordsOnRows.{long_on}

-- some bytes of a row, of which the kept dots stay
pub kept_bytes : (kept row : List ℕ) (i n : ℕ) → i + n ≤ length kept → i + n ≤ length row
    → Painted White (λ d. span i (i + n) (d / 8) && not (dot kept d)) row (put_chunk i row (zip2 bit_and (chunk i n row) (chunk i n kept)))
kept_bytes kept row i n there room = painted_block White (λ d. not (dot kept d)) i n row _ (long_on bit_and row _ i n room (length-chunk i n kept there)) room
    (λ j m k h. grind (arith, get_or-zip2, get_or-chunk, length-chunk, bit_of_and, dot_at))

black_row : (n x : ℕ) → x / 8 < n → dot (replicate n 255) x ≡ true
unfolding dot bit
black_row n x h = rw (get_or-replicate {A = ℕ} n (x / 8) 255 0 h) (every_at 8 (λ k. eqb (bit_at 255 k) 1) refl (7 - x % 8) (omega arith))

-- a black row that is made white along an area
pub kept_row : (n from to x : ℕ) (new : List ℕ) → Painted White (span from to) (replicate n 255) new → x < 8 * n → dot new x ≡ not (span from to x)
kept_row n from to x new p h = grind (arith, length-replicate, black_row n x)
