-- What the code keeps of the generator: its multiples, each in a row of 32 coefficients.
use Rattle.std.specs.Prelude.{◌≡◌, ℕ, ◌-◌, ◌<◌, List, [], ◌++◌, drop, replicate, slice_index_or}
use Rattle.vp_qr.specs.Polynomial.{generator, scaled}

-- the coefficients of the generator below its highest, zeros behind them
abbrev pub low_row : ℕ → List ℕ
low_row n = drop 1 (generator n) ++ replicate (32 - n) 0

-- a row for each element: these coefficients times it
abbrev pub AreMultiples : ℕ → List (List ℕ) → Type 0
AreMultiples n rows = (f : ℕ) → f < 256 → slice_index_or rows f [] ≡ scaled f (low_row n)
