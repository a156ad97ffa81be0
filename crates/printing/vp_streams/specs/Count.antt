-- Counts that stop at the greatest u64.
use Rattle.std.specs.Prelude.{ℕ, ◌+◌, ◌-◌, ◌^◌, ◌==◌, min, Bool, true, if◌then◌else◌, Result, Ok, Err}

-- n, as a count that stops
abbrev pub counted : ℕ → ℕ
counted n = min n (2 ^ 64 - 1)

-- n more
abbrev pub grown : ℕ → ℕ → ℕ
grown count n = min (count + n) (2 ^ 64 - 1)

abbrev pub one_more_if : Bool → ℕ → ℕ
one_more_if b count = if b then grown count 1 else count

-- a write that failed, or took nothing
abbrev pub has_failed_to_write : {E : Type 0} → Result ℕ E → Bool
has_failed_to_write (Ok n) = n == 0
has_failed_to_write (Err e) = true

-- a reader or a writer, how often it was called, and how many of the calls failed
pub record Tally (T : Type 0) : Type 0 where
  pub inner : T
  pub calls : ℕ
  pub failed : ℕ

-- no call is counted yet
abbrev pub uncounted : {T : Type 0} → T → Tally T
uncounted inner = record { inner = inner; calls = 0; failed = 0 }
