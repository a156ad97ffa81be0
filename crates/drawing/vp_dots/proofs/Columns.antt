-- Dots of words.
use Rattle.std.proofs.Common.{◌≡◌, ℕ, false, ◌||◌, bit_or, arith}
use Rattle.vp_dots.specs.Dots.{bit}
use Rattle.vp_dots.proofs.Bits.{bit_of_or}
use Rattle.vp_dots.specs.Words.{word_dot}

-- a dot of no dots
pub white_dot : (x : ℕ) → word_dot 0 x ≡ false
unfolding bit
white_dot x = grind arith

-- the dots of two words
pub either_dot : (a b u : ℕ) → word_dot (bit_or a b) u ≡ (word_dot a u || word_dot b u)
either_dot a b u = grind (arith, bit_of_or)
