-- Squares of four equal modules, row by row.
use Rattle.std.proofs.Common.{◌≡◌, ℕ, ◌+◌, ◌-◌, ◌/◌, ◌%◌, ◌^◌, ◌<◌, ◌&&◌, eqb, cond, max, ◌∙◌, arith, bit_or, bit_xor, w64}
use Rattle.std.specs.Int.{bit_at}
use Rattle.std.proofs.lemmas.Nat.{or_lt, xor_lt}
use Rattle.std.proofs.lemmas.Nat.Bits.{bit_at_not, bit_at_or, bit_at_xor, bit_at-suc, bit_at-lt}
use Rattle.vp_qr.specs.Penalty.{same, is_set, square_at}

four : (a b c d : ℕ) → a < 2 → b < 2 → c < 2 → d < 2
    → 1 - max (max ((a + b) % 2) ((a + c) % 2)) ((a + d) % 2) ≡ cond (same (eqb a 1) (eqb b 1) && same (eqb a 1) (eqb c 1) && same (eqb a 1) (eqb d 1)) 1 0
four a b c d ha hb hc hd = grind arith

next_bit : (n j : ℕ) → bit_at (n / 2) j ≡ bit_at n (j + 1)
next_bit n j = grind (arith, bit_at-suc n j)

pub squares_are : (above below j : ℕ) → above < 2 ^ 64 → below < 2 ^ 64 → j < 64
    → bit_at (2 ^ 64 - 1 - bit_or (bit_or (bit_xor above (above / 2)) (bit_xor above below)) (bit_xor above (below / 2))) j ≡ square_at (is_set above) (is_set below) j
squares_are above below j ha hb hj =
    let small = or_lt 64 _ _ (or_lt 64 _ _ (xor_lt 64 above (above / 2) ha (omega arith)) (xor_lt 64 above below ha hb)) (xor_lt 64 above (below / 2) ha (omega arith)) in
    bit_at_not w64 _ j small hj ∙ simp (bit_at_or, bit_at_xor, next_bit) (four _ _ _ _ (bit_at-lt above j) (bit_at-lt above (j + 1)) (bit_at-lt below j) (bit_at-lt below (j + 1)))
