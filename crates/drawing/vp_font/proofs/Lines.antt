-- The first line of a text.
use Rattle.std.proofs.Common.{◌≡◌, ℕ, ◌+◌, ◌<◌, ◌≤◌, Bool, true, false, ◌==◌, arith, refl, List, [], ◌∷◌, length, take, drop}
use Rattle.std.specs.List.{prefix_len}
use Rattle.vp_font.specs.Words.{lines, within_line}

abbrev AtLine : List ℕ → Type 0
AtLine text = prefix_len within_line text < length text → lines text ≡ take (prefix_len within_line text) text ∷ lines (drop (prefix_len within_line text + 1) text)

more : (b : ℕ) (rest : List ℕ) → AtLine rest → (t : Bool) → (b == 10) ≡ t → AtLine (b ∷ rest)
unfolding lines
more b rest h true e l = grind arith
more b rest h false e l = let m : prefix_len within_line rest < length rest = grind arith in let is = h m in grind arith

-- up to the first LF
pub first_of : (text : List ℕ) → prefix_len within_line text < length text → lines text ≡ take (prefix_len within_line text) text ∷ lines (drop (prefix_len within_line text + 1) text)
first_of [] l = absurd (omega arith)
first_of (b ∷ rest) l = more b rest (first_of rest) (b == 10) refl l

-- without one
pub only_one : (text : List ℕ) → 0 < length text → length text ≤ prefix_len within_line text → lines text ≡ text ∷ lines []
unfolding lines
only_one [] s l = absurd (omega arith)
only_one (b ∷ []) s l = grind arith
only_one (b ∷ c ∷ rest) s l = grind (arith, only_one (c ∷ rest))

pub no_lines : (text : List ℕ) → length text ≡ 0 → lines text ≡ []
unfolding lines
no_lines [] e = refl
no_lines (b ∷ rest) e = absurd (omega arith)
