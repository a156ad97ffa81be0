-- The modules of a finished symbol (ISO/IEC 15438, low level encodation).
use Rattle.std.specs.Prelude.{ℕ, ◌+◌, ◌-◌, ◌*◌, ◌/◌, ◌%◌, ◌==◌, nat_le, Bool, true, List, slice_index, if◌then◌else◌}
use Rattle.std.specs.Int.{bit_at}
use Rattle.vp_pdf417.specs.declared.size.Size.{Size}
use Rattle.vp_pdf417.specs.Patterns.{pattern}

-- a row's number and what it says of the symbol: the rows, the level and the rows, or the columns
abbrev pub said : Size → ℕ → ℕ → ℕ
said s row k = 30 * (row / 3) + (if k == 0 then (s.rows - 1) / 3
    else if k == 1 then 3 * s.level + (s.rows - 1) % 3
    else s.columns - 1)

-- the row indicators
abbrev pub left : Size → ℕ → ℕ
left s row = said s row (row % 3)

abbrev pub right : Size → ℕ → ℕ
right s row = said s row ((row + 2) % 3)

-- codeword number k of a row: the left indicator, the data, and the right indicator
unfoldable pub codeword_at : Size → List ℕ → ℕ → ℕ → ℕ
codeword_at s words row k =
    if k == 0 then left s row
    else if nat_le k s.columns then slice_index words (row * s.columns + (k - 1))
    else right s row

-- how many times 17 modules a row has, and all its modules: the last is one dark module, which in a compact
-- symbol is all that stands behind the data
abbrev pub parts : Size → ℕ
parts s = s.columns + (if s.compact then 2 else 4)

abbrev pub across : Size → ℕ
across s = 17 * parts s + 1

-- part number k: the start pattern, the codewords, and the stop pattern but for its last module
unfoldable pub part : Size → List ℕ → ℕ → ℕ → ℕ
part s words row k =
    if k == 0 then 0x1fea8
    else if k == s.columns + 3 then 0x1fd14
    else pattern row (codeword_at s words row (k - 1))

-- whether module x of a row is dark
unfoldable pub module_of : Size → List ℕ → ℕ → ℕ → Bool
module_of s words row x =
    if x / 17 == parts s then true else bit_at (part s words row (x / 17)) (16 - x % 17) == 1
