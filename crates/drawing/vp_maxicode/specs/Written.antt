-- Codewords as they are written: as many as a symbol has room for, or that there are more.
use Rattle.std.specs.Prelude.{ℕ, nat_lt, length, List, [], ◌∷◌, ◌++◌, Option, Some, None, if◌then◌else◌}

-- after one more
abbrev pub pushed : Option (List ℕ) → ℕ → Option (List ℕ)
pushed None x = None
pushed (Some words) x = if nat_lt (length words) 93 then Some (words ++ x ∷ []) else None

-- after all of these
abbrev pub written : Option (List ℕ) → List ℕ → Option (List ℕ)
written words [] = words
written words (x ∷ xs) = written (pushed words x) xs
