-- Codewords as they are written: as many as a symbol holds, or that there are more.
use Rattle.std.specs.Prelude.{◌≡◌, ℕ, ◌%◌, ◌<◌, nat_lt, slice_index, length, List, [], ◌∷◌, ◌++◌, Option, Some, None, if◌then◌else◌}
use Rattle.vp_pdf417.specs.Text.{paired}
use Rattle.vp_pdf417.specs.Places.{cut}

-- after one more
abbrev pub pushed : Option (List ℕ) → ℕ → Option (List ℕ)
pushed None x = None
pushed (Some words) x = if nat_lt (length words) 928 then Some (words ++ x ∷ []) else None

-- after all of these
abbrev pub written : Option (List ℕ) → List ℕ → Option (List ℕ)
written words [] = words
written words (x ∷ xs) = written (pushed words x) xs

-- a value that waits for its second
abbrev pub half_of : Option ℕ → List ℕ
half_of None = []
half_of (Some value) = value ∷ []

-- what is written when these values of text follow
abbrev pub coming : Option (List ℕ) → Option ℕ → List ℕ → Option (List ℕ)
coming words half rest = written words (paired (half_of half ++ rest))

-- the places of a number, the lowest first
abbrev pub IsNumber : ℕ → List ℕ → Type 0
IsNumber t places = (k : ℕ) → k < 15 → slice_index places k ≡ cut t k % 900

abbrev pub AreSmall : List ℕ → Type 0
AreSmall places = (k : ℕ) → slice_index places k < 900
