-- Ink at places of either sign: a label has none before its first column and row, but what is drawn on it
-- may.
use Rattle.std.specs.Prelude.{ℕ, ℤ, pos, negsuc, Bool, false}

-- dot x of a line, which has none before its first
abbrev pub at_place : (ℕ → Bool) → ℤ → Bool
at_place line (pos x) = line x
at_place line (negsuc x) = false

-- dot (x, y) of ink
abbrev pub ink_at : (ℕ → ℕ → Bool) → ℤ → ℤ → Bool
ink_at ink x y = at_place (λ v. at_place (λ u. ink u v) x) y
