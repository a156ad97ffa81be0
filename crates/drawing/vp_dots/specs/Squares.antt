-- Squares of 64 by 64 dots: 64 words, the first row first.
use Rattle.std.specs.Prelude.{ℕ, ◌+◌, ◌-◌, ◌*◌, ◌/◌, ◌%◌, Bool, if◌then◌else◌}

-- In a step of a turn two rows become two, 32 apart before and side by side after it: the left parts of both,
-- and the right parts of both, a part being `wide` dots wide.

-- the row from which a dot of row y comes, by whether it is in a left part
abbrev pub row_from : Bool → ℕ → ℕ
row_from left y = if left then y / 2 else 32 + y / 2

-- and the column of that row
abbrev pub column_from : Bool → ℕ → ℕ → ℕ → ℕ
column_from left wide x y = if left then x + wide * (y % 2) else x + wide * (y % 2) - wide
