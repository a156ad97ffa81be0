-- The standard's tables, by their rules (RFC 1951, 3.2.5 and 3.2.7).
use Rattle.std.specs.Prelude.{ℕ, zero, suc, ◌+◌, ◌-◌, ◌/◌, ◌^◌, List, [], ◌∷◌}

-- the extra bits of length symbol k from 257 on, but for the last one, which has none
abbrev pub more_bytes : ℕ → ℕ
more_bytes k = (k - 4) / 4

-- its fewest bytes: they begin behind those of the symbol before
abbrev pub fewest : ℕ → ℕ
fewest zero = 3
fewest (suc k) = fewest k + 2 ^ more_bytes k

-- the extra bits of distance symbol k, and its shortest distance
abbrev pub more_distance : ℕ → ℕ
more_distance k = (k - 2) / 2

abbrev pub shortest : ℕ → ℕ
shortest zero = 1
shortest (suc k) = shortest k + 2 ^ more_distance k

-- the symbols in the order in which the lengths of their codes come
abbrev pub order : List ℕ
order = 16 ∷ 17 ∷ 18 ∷ 0 ∷ 8 ∷ 7 ∷ 9 ∷ 6 ∷ 10 ∷ 5 ∷ 11 ∷ 4 ∷ 12 ∷ 3 ∷ 13 ∷ 2 ∷ 14 ∷ 1 ∷ 15 ∷ []
