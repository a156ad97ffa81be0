-- How data that may have the sign are said.
use Rattle.std.specs.Prelude.{ℕ, ◌==◌, List, [], ◌∷◌, if◌then◌else◌}

-- each sign doubled
abbrev pub escaped : ℕ → List ℕ → List ℕ
escaped sign [] = []
escaped sign (c ∷ rest) = if c == sign then sign ∷ sign ∷ escaped sign rest else c ∷ escaped sign rest
