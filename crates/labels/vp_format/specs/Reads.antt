-- Codes as they are read from the left: what each one adds, whatever stands before and behind it.
use Rattle.std.specs.Prelude.{◌≡◌, ℕ, ◌+◌, ◌*◌, ◌/◌, ◌%◌, max, Bool, true, false, List, [], ◌∷◌, ◌++◌}
use Rattle.vp_format.specs.declared.codes.Code.{Code}
use Rattle.vp_format.specs.declared.codes.Code.TheVariants.{Digit, Count, Fill, Above}
use Rattle.vp_format.specs.Codes.{code_of}

-- hex digits and their values
pub data AreDigits : List ℕ → List ℕ → Type 0 where
  no_digit : AreDigits [] []
  digit : (b v : ℕ) (codes values : List ℕ) → code_of b ≡ Digit v → AreDigits codes values →
      AreDigits (b ∷ codes) (v ∷ values)

-- counts and their sum
pub data AreCounts : List ℕ → ℕ → Type 0 where
  no_count : AreCounts [] 0
  count : (b m n : ℕ) (counts : List ℕ) → code_of b ≡ Count m → AreCounts counts n →
      AreCounts (b ∷ counts) (m + n)

-- a digit or a count may stand behind a count
abbrev pub goes_on : Code → Bool
goes_on (Digit v) = true
goes_on (Count n) = true
goes_on _ = false

-- accepted codes, in rows of `width` places, and the place behind them: a digit takes one place or as many as
-- the counts before it say, `,` and `!` take the rest of the row, or a whole one at its start, and `:` takes
-- a row, at its start alone
pub data ReadTo (width : ℕ) : List ℕ → ℕ → Type 0 where
  start : ReadTo width [] 0
  run : (front counts : List ℕ) (n b v place : ℕ) → ReadTo width front place → AreCounts counts n →
      code_of b ≡ Digit v → ReadTo width (front ++ (counts ++ b ∷ [])) (place + max n 1)
  row : (front : List ℕ) (b v place : ℕ) → ReadTo width front place → code_of b ≡ Fill v →
      ReadTo width (front ++ b ∷ []) ((place / width + 1) * width)
  again : (front : List ℕ) (b place : ℕ) → ReadTo width front place → code_of b ≡ Above → place % width ≡ 0 →
      ReadTo width (front ++ b ∷ []) ((place / width + 1) * width)
