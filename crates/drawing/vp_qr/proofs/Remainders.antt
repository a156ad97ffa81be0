-- The remainder of a number as a polynomial, step by step.
use Rattle.std.proofs.Common.{◌≡◌, ℕ, ◌+◌, ◌-◌, ◌*◌, ◌/◌, ◌%◌, ◌^◌, ◌<◌, ◌≤◌, sym, subst, arith, bit_and, bit_xor}
use Rattle.std.proofs.lemmas.Nat.{shl_whole, xor_lt, pow_below}
use Rattle.std.proofs.lemmas.Nat.Bits.{shr_and_one}
use Rattle.vp_qr.specs.Codes.{reduced, remainder}

whole : (g k : ℕ) → g < 2 ^ 16 → k < 16 → g * 2 ^ k % 2 ^ 64 ≡ g * 2 ^ k
whole g k hg hk = shl_whole g 16 k 64 hg (omega arith)

small : (g k : ℕ) → g < 2 ^ 16 → k < 16 → g * 2 ^ k < 2 ^ 32
small g k hg hk = grind (arith, pow_below)

pub reduced_set : (g d k n : ℕ) → g < 2 ^ 16 → k < 16 → bit_and (n / 2 ^ (d + k)) 1 ≡ 1 → bit_xor n (g * 2 ^ k % 2 ^ 64) ≡ reduced g d k n
reduced_set g d k n hg hk h = grind (arith, shr_and_one, whole)

pub reduced_clear : (g d k n : ℕ) → (bit_and (n / 2 ^ (d + k)) 1 ≡ 1 → ⊥) → n ≡ reduced g d k n
reduced_clear g d k n h = grind (arith, shr_and_one)

pub reduced_small : (g k n : ℕ) → g < 2 ^ 16 → k < 16 → n < 2 ^ 32 → bit_xor n (g * 2 ^ k % 2 ^ 64) < 2 ^ 32
reduced_small g k n hg hk hn = subst (λ m. bit_xor n m < 2 ^ 32) (sym (whole g k hg hk)) (xor_lt 32 n (g * 2 ^ k) hn (small g k hg hk))

pub remainder_more : (g d n k number : ℕ) → k < n → remainder g d (n - k) number ≡ remainder g d (n - (k + 1)) (reduced g d (n - 1 - k) number)
unfolding remainder
remainder_more g d n k number h = grind arith

pub remainder_done : (g d n k number : ℕ) → n ≤ k → remainder g d (n - k) number ≡ number
unfolding remainder
remainder_done g d n k number h = grind arith
