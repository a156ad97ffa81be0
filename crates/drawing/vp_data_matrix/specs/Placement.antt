-- Where the bits of the codewords stand in the mapping matrix (ISO/IEC 16022, 5.8 and annex F).
use Rattle.std.specs.Prelude.{ℕ, zero, suc, ◌+◌, ◌-◌, ◌*◌, ◌/◌, ◌%◌, ◌==◌, ◌&&◌, not, nat_lt, Bool, List, [], ◌∷◌, if◌then◌else◌}
use Rattle.std.specs.List.{list_any}
use Rattle.vp_data_matrix.specs.declared.grid.Place.{Place}
use Rattle.vp_data_matrix.specs.declared.grid.Matrix.{Matrix}

abbrev pub at : ℕ → ℕ → Place
at row column = record { row = row; column = column }

-- a place is that of row i and column j
abbrev pub is_at : ℕ → ℕ → Place → Bool
is_at i j p = p.row == i && p.column == j

-- so many rows up and columns left of a place: what leaves the matrix at the top comes back at the bottom,
-- and at the left at the right, moved as the matrix's size says
abbrev pub moved : Matrix → ℕ → ℕ → ℕ → ℕ → Place
moved m row column up left =
    if nat_lt row up then at (row + m.rows - up) (column + 4 - (m.rows + 4) % 8 - left)
    else if nat_lt column left then at (row + 4 - (m.columns + 4) % 8 - up) (column + m.columns - left)
    else at (row - up) (column - left)

-- the eight places of a codeword whose last bit is at a place, the highest bit's first
unfoldable pub codeword_at : Matrix → ℕ → ℕ → List Place
codeword_at m row column = moved m row column 2 2 ∷ moved m row column 2 1 ∷ moved m row column 1 2
    ∷ moved m row column 1 1 ∷ moved m row column 1 0 ∷ moved m row column 0 2 ∷ moved m row column 0 1
    ∷ moved m row column 0 0 ∷ []

-- those of the four codewords that are divided between corners
abbrev pub corner_1 : Matrix → List Place
corner_1 m = at (m.rows - 1) 0 ∷ at (m.rows - 1) 1 ∷ at (m.rows - 1) 2 ∷ at 0 (m.columns - 2)
    ∷ at 0 (m.columns - 1) ∷ at 1 (m.columns - 1) ∷ at 2 (m.columns - 1) ∷ at 3 (m.columns - 1) ∷ []

abbrev pub corner_2 : Matrix → List Place
corner_2 m = at (m.rows - 3) 0 ∷ at (m.rows - 2) 0 ∷ at (m.rows - 1) 0 ∷ at 0 (m.columns - 4)
    ∷ at 0 (m.columns - 3) ∷ at 0 (m.columns - 2) ∷ at 0 (m.columns - 1) ∷ at 1 (m.columns - 1) ∷ []

abbrev pub corner_3 : Matrix → List Place
corner_3 m = at (m.rows - 3) 0 ∷ at (m.rows - 2) 0 ∷ at (m.rows - 1) 0 ∷ at 0 (m.columns - 2)
    ∷ at 0 (m.columns - 1) ∷ at 1 (m.columns - 1) ∷ at 2 (m.columns - 1) ∷ at 3 (m.columns - 1) ∷ []

abbrev pub corner_4 : Matrix → List Place
corner_4 m = at (m.rows - 1) 0 ∷ at (m.rows - 1) (m.columns - 1) ∷ at 0 (m.columns - 3) ∷ at 0 (m.columns - 2)
    ∷ at 0 (m.columns - 1) ∷ at 1 (m.columns - 3) ∷ at 1 (m.columns - 2) ∷ at 1 (m.columns - 1) ∷ []

-- the one that comes before the upward diagonal on which row and column add up to d, if one does
unfoldable pub corner : Matrix → ℕ → List Place
corner m d =
    if d == m.rows then corner_1 m
    else if d + 2 == m.rows && not (m.columns % 4 == 0) then corner_2 m
    else if d + 2 == m.rows && m.columns % 8 == 4 then corner_3 m
    else if d == m.rows + 6 && m.columns % 8 == 0 then corner_4 m
    else []

-- places laid behind others; what is laid is kept with the newest first
abbrev pub laid_on : List Place → List Place → List Place
laid_on [] laid = laid
laid_on (p ∷ places) laid = laid_on places (p ∷ laid)

-- a codeword more, if its last bit's place is in the matrix and nothing stands there
unfoldable pub step : Matrix → ℕ → ℕ → List Place → List Place
step m row column laid =
    if nat_lt row m.rows && nat_lt column m.columns && not (list_any (is_at row column) laid)
    then laid_on (codeword_at m row column) laid
    else laid

-- the first n steps up a diagonal and to the right, two rows and two columns each, from column 0
unfoldable pub upwards : Matrix → ℕ → ℕ → List Place → List Place
upwards m d zero laid = laid
upwards m d (suc n) laid = step m (d - 2 * n) (2 * n) (upwards m d n laid)

-- and down a diagonal and to the left, from row 1
unfoldable pub downwards : Matrix → ℕ → ℕ → List Place → List Place
downwards m d zero laid = laid
downwards m d (suc n) laid = step m (2 * n + 1) (d - (2 * n + 1)) (downwards m d n laid)

-- all steps on the first n pairs of diagonals: 4 upwards, 8 downwards, 12 upwards, and so on
unfoldable pub diagonals : Matrix → ℕ → List Place
diagonals m zero = []
diagonals m (suc n) = downwards m (8 * n + 8) (4 * n + 4)
    (upwards m (8 * n + 4) (4 * n + 3) (laid_on (corner m (8 * n + 4)) (diagonals m n)))

-- the places of all bits, the last bit's first
abbrev pub places : Matrix → List Place
places m = diagonals m ((m.rows + m.columns) / 8 + 1)
