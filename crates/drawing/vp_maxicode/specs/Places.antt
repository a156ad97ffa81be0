-- Where the modules of codewords lie (ISO/IEC 16023, module sequence), by row and column from 0: 33 rows of
-- 30 and of 29 modules in turn. Modules are numbered from 0, six for each codeword.
use Rattle.std.specs.Prelude.{◌≡◌, ℕ, zero, suc, ◌+◌, ◌-◌, ◌*◌, ◌/◌, ◌%◌, ◌==◌, ◌<◌, nat_lt, Bool, slice_index, Option, Some, None, if◌then◌else◌}
use Rattle.vp_maxicode.specs.declared.place.TheConstants.{SCATTERED, BLOCKS}

-- modules in a row
abbrev pub across : ℕ → ℕ
across row = 30 - row % 2

-- the number of a place where a test passes, from k on among the next n
abbrev pub first_from : (ℕ → Bool) → ℕ → ℕ → Option ℕ
first_from test k zero = None
first_from test k (suc n) = if test k then Some k else first_from test (k + 1) n

-- a module of the first nine codewords, which are scattered about the finder, by 30 times its row and its
-- column
unfoldable pub scattered : ℕ → ℕ → Option ℕ
scattered row column = first_from (λ k. slice_index SCATTERED k == 30 * row + column) 0 54

-- the codeword of a block of two columns and three rows, from 1 on, or 0 where there is none
abbrev pub block_at : ℕ → ℕ → ℕ
block_at row column = slice_index BLOCKS (14 * (row / 3) + column / 2)

-- a module of a block: from the top, and in each row from the right
abbrev pub in_block : ℕ → ℕ → ℕ → Option ℕ
in_block word row column =
    if word == 0 then None else Some (6 * (word - 1) + 2 * (row % 3) + (1 - column % 2))

-- a module of the last eight codewords, which go down the two columns on the right below the first row
abbrev pub at_edge : ℕ → ℕ → Option ℕ
at_edge row column =
    if row == 0 then None
    else if row % 2 == 1 then Some (816 + 3 * ((row - 1) / 2))
    else Some (816 + 3 * ((row - 1) / 2) + (30 - column))

-- the number of the module at a place on the symbol, if it is one of a codeword's
abbrev pub number_by : Option ℕ → ℕ → ℕ → Option ℕ
number_by (Some k) row column = Some k
number_by None row column =
    if nat_lt column 28 then in_block (block_at row column) row column else at_edge row column

unfoldable pub number_at : ℕ → ℕ → Option ℕ
number_at row column = number_by (scattered row column) row column

-- each of the 864 modules of the codewords has one place on the symbol
pub record HavePlaces : Type 0 where
  pub within : (row column n : ℕ) → row < 33 → column < across row → number_at row column ≡ Some n → n < 864
  pub one : (n : ℕ) → n < 864
      → (row : ℕ) × (column : ℕ) × (row < 33) × (column < across row) × (number_at row column ≡ Some n)
  pub own : (row column r c n : ℕ) → row < 33 → column < across row → r < 33 → c < across r
      → number_at row column ≡ Some n → number_at r c ≡ Some n → (row ≡ r) × (column ≡ c)
