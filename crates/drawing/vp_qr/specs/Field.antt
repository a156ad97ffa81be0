-- The field of 256 elements: bytes as polynomials over bits, modulo x^8 + x^4 + x^3 + x^2 + 1 (ISO/IEC
-- 18004, 7.5.2).
use Rattle.std.specs.Prelude.{ℕ, zero, suc, ◌*◌, ◌/◌, ◌%◌, bit_xor}

-- a times x: each bit moves up, and where bit 7 was set the modulus, 285, is taken off
unfoldable pub doubled : ℕ → ℕ
doubled a = bit_xor (2 * a) (285 * (a / 128 % 2))

-- a times the polynomial of b's n lowest bits: a, doubled a and so on, summed at the bits of b
abbrev pub times_bits : ℕ → ℕ → ℕ → ℕ
times_bits zero a b = 0
times_bits (suc n) a b = bit_xor (b % 2 * a) (times_bits n (doubled a) (b / 2))

-- the product
unfoldable pub times : ℕ → ℕ → ℕ
times a b = times_bits 8 a b

-- the element x to the power k
unfoldable pub power : ℕ → ℕ
power zero = 1
power (suc k) = doubled (power k)
