-- Lines of dots that are laid at once.
use Rattle.std.specs.Prelude.{ℕ, ◌+◌, nat_lt, Bool, false, ◌&&◌, if◌then◌else◌, List, [], ◌∷◌, ◌*◌, take, drop, slice_index_or}
use Rattle.vp_dots.specs.Dots.{dot}
use Rattle.vp_page.specs.declared.line.TheConstants.{LINE_DOTS}

-- dot u of line i, none of which is longer than the longest line
abbrev pub line_dot : List (List ℕ) → ℕ → ℕ → Bool
line_dot lines i u = nat_lt u LINE_DOTS && dot (slice_index_or lines i []) u

-- what lines show below one that shows these bytes, of which the first is line i
abbrev pub shown_below : List ℕ → List Bool → ℕ → List (List ℕ) → List (List ℕ)
shown_below above same i [] = []
shown_below above same i (line ∷ lines) =
    (if slice_index_or same i false then above else line)
    ∷ shown_below (if slice_index_or same i false then above else line) same (i + 1) lines

-- what lines show: one of which it is told that it is the same as the one above shows what that one does,
-- whatever its bytes are
abbrev pub shown_lines : List Bool → List (List ℕ) → List (List ℕ)
shown_lines same [] = []
shown_lines same (line ∷ lines) = line ∷ shown_below line same 1 lines

-- row i of bytes of which `wide` make a row
abbrev pub row_in : List ℕ → ℕ → ℕ → List ℕ
row_in bytes wide i = take wide (drop (i * wide) bytes)
