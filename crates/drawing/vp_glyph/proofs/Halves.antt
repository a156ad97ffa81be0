-- Halves of words.
use Rattle.std.proofs.Common.{◌≡◌, ℕ, ◌-◌, ◌/◌, ◌^◌, ◌<◌, false, eqb, ◌||◌, refl, ap, ◌∙◌, arith, bit_and, bit_or}
use Rattle.std.proofs.lemmas.Nat.Bits.{shr_and_one}
use Rattle.std.proofs.lemmas.Bool.{lt-ltb}
use Rattle.vp_dots.specs.Dots.{bit}
use Rattle.vp_dots.specs.Words.{word_dot}
use Rattle.vp_dots.proofs.Bits.{bit_of_or}
use Rattle.vp_dots.proofs.Words.{bit_shr}
use Rattle.vp_glyph.specs.Halves.{half_dot}

pub or_half : (v w x : ℕ) → half_dot (bit_or v w) x ≡ (half_dot v x || half_dot w x)
or_half v w x = grind (arith, bit_of_or)

pub white_half : (x : ℕ) → half_dot 0 x ≡ false
unfolding bit
white_half x = grind arith

-- the left half of a word
pub half_left : (w x : ℕ) → x < 32 → half_dot (w / 2 ^ 32) x ≡ word_dot w x
half_left w x l = rw (lt-ltb x 32 l, lt-ltb x 64 (omega arith)) (bit_shr w 32 (31 - x) ∙ ap (bit w) (omega arith))

-- the dot as the code reads it
pub half_read : (half x : ℕ) → x < 32 → eqb (bit_and (half / 2 ^ (31 - x)) 1) 1 ≡ half_dot half x
unfolding bit
half_read half x h = rw (shr_and_one half (31 - x), lt-ltb x 32 h) refl
