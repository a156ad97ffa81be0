-- Rows of dots, of which many get the same ones.
use Rattle.std.specs.Prelude.{ℕ, zero, suc, ◌-◌, Bool, ◌||◌, List, [], slice_index_or}
use Rattle.vp_dots.specs.Dots.{dot}

-- dot x of one of the rows up to row k
abbrev pub dot_upto : List (List ℕ) → ℕ → ℕ → Bool
dot_upto rows zero x = dot (slice_index_or rows zero []) x
dot_upto rows (suc k) x = dot_upto rows k x || dot (slice_index_or rows (suc k) []) x

-- dot x of row k of n: its own, or one that all rows from one on have, or all rows up to one, which are
-- counted from the last
abbrev pub run_dot : List (List ℕ) → List (List ℕ) → List (List ℕ) → ℕ → ℕ → ℕ → Bool
run_dot alone down up n k x =
    dot (slice_index_or alone k []) x || (dot_upto down k x || dot_upto up (n - 1 - k) x)
