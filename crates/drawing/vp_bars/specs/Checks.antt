-- What check characters are made of: sums of values that are weighted from the last one on.
use Rattle.std.specs.Prelude.{ℕ, ◌+◌, ◌-◌, ◌*◌, ◌%◌, ◌==◌, List, [], ◌∷◌, reverse, if◌then◌else◌}
use Rattle.vp_bars.specs.Ean13.{weighted}

-- what a sum lacks to a multiple of n
abbrev pub lacking : ℕ → ℕ → ℕ
lacking n sum = (n - sum % n) % n

-- the weight behind another: those from one to another come in turn
abbrev pub next_weight : ℕ → ℕ → ℕ → ℕ
next_weight first last weight = if weight == last then first else weight + 1

-- values by weights that come in turn, from this one on
abbrev pub in_turn : ℕ → ℕ → ℕ → List ℕ → ℕ
in_turn first last weight [] = 0
in_turn first last weight (v ∷ vs) = weight * v + in_turn first last (next_weight first last weight) vs

-- the sum of values, of which the last one weighs `first`, the one before it one more, and so on up to `last`
-- in turn
abbrev pub weighed : ℕ → ℕ → List ℕ → ℕ
weighed first last vs = in_turn first last first (reverse vs)

-- the check digit modulo 10: the last digit weighs 3, the one before it 1, and so on in turn
abbrev pub mod10_check : List ℕ → ℕ
mod10_check ds = lacking 10 (weighted 3 (reverse ds))
