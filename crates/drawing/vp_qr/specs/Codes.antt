-- The codes of format and version (ISO/IEC 18004, 7.9 and 7.10): numbers as polynomials, a bit to each
-- coefficient.
use Rattle.std.specs.Prelude.{ℕ, zero, suc, ◌+◌, ◌*◌, ◌^◌, ◌==◌, bit_xor, if◌then◌else◌}
use Rattle.std.specs.Int.{bit_at}
use Rattle.vp_qr.specs.declared.level.Level.{Level}
use Rattle.vp_qr.specs.declared.level.Level.TheVariants.{L, M, Q, H}

-- where bit d + k is set, the multiple of a polynomial of degree d that clears it is taken off
abbrev pub reduced : ℕ → ℕ → ℕ → ℕ → ℕ
reduced g d k number = if bit_at number (d + k) == 1 then bit_xor number (g * 2 ^ k) else number

-- the remainder of a number of d + n bits by such a polynomial: all bits from d on are cleared, the highest
-- first
unfoldable pub remainder : ℕ → ℕ → ℕ → ℕ → ℕ
remainder g d zero number = number
remainder g d (suc n) number = remainder g d n (reduced g d n number)

-- the two bits that name a level (table 12)
abbrev pub level_bits : Level → ℕ
level_bits L = 1
level_bits M = 0
level_bits Q = 3
level_bits H = 2

-- level and mask, the remainder by x^10 + x^8 + x^5 + x^4 + x^2 + x + 1 behind them, and all that changed
-- by a mask of its own
unfoldable pub format_code : Level → ℕ → ℕ
format_code level mask =
    let five = 8 * level_bits level + mask in
    bit_xor (1024 * five + remainder 0x537 10 5 (1024 * five)) 0x5412

-- the version, the remainder by x^12 + x^11 + x^10 + x^9 + x^8 + x^5 + x^2 + 1 behind it
unfoldable pub version_code : ℕ → ℕ
version_code version = 4096 * version + remainder 0x1f25 12 6 (4096 * version)
