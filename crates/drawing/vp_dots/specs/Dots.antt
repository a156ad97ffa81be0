-- Rows of bytes as rows of dots.
use Rattle.std.specs.Prelude.{ℕ, ◌+◌, ◌-◌, ◌*◌, ◌/◌, ◌%◌, Bool, ◌==◌, nat_lt, nat_le, ◌&&◌, List, slice_index, length, ℤ}
use Rattle.std.specs.Prelude.{pos, negsuc}
use Rattle.std.specs.Int.{bit_at}

-- bit k of a number, the lowest bit being 0
unfoldable pub bit : ℕ → ℕ → Bool
bit n k = bit_at n k == 1

-- dot d of a row of bytes, false outside: the leftmost dot of a byte is its highest bit (netpbm, raw pbm)
unfoldable pub dot : List ℕ → ℕ → Bool
dot row d = bit (slice_index row (d / 8)) (7 - d % 8)

-- how many dots a row of bytes has
abbrev pub dots : List ℕ → ℕ
dots row = 8 * length row

-- f, moved by a signed offset: place d meets place d - at of f, and false where there is none
abbrev pub shifted : ℤ → (ℕ → Bool) → ℕ → Bool
shifted (pos at) f d = nat_le at d && f (d - at)
shifted (negsuc at) f d = f (d + (at + 1))

-- from <= d < to
abbrev pub span : ℕ → ℕ → ℕ → Bool
span from to d = nat_le from d && nat_lt d to
