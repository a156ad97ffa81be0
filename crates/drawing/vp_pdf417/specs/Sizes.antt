-- The size of a symbol: columns of data, rows and error correction level (ISO/IEC 15438, symbol format).
use Rattle.std.specs.Prelude.{ℕ, ◌+◌, ◌-◌, ◌*◌, ◌/◌, ◌^◌, ◌==◌, ◌&&◌, ◌||◌, ◌<◌, ◌≤◌, nat_le, not, max, Bool, true, Option, Some, None, is_none, unwrap_or, if◌then◌else◌}
use Rattle.vp_pdf417.specs.Text.{first_from}
use Rattle.vp_pdf417.specs.declared.size.Size.{Size}
use Rattle.vp_pdf417.specs.declared.size.Asked.{Asked}

-- how many check codewords a level has
abbrev pub check_count : ℕ → ℕ
check_count level = 2 ^ (level + 1)

-- the level that is recommended for so many data codewords (annex E)
abbrev pub recommended : ℕ → ℕ
recommended count =
    if nat_le count 40 then 2 else if nat_le count 160 then 3 else if nat_le count 320 then 4 else 5

abbrev pub level_of : Asked → ℕ → ℕ
level_of asked count = unwrap_or asked.level (recommended count)

-- how many codewords are needed for so many of data
abbrev pub needed : Asked → ℕ → ℕ
needed asked count = count + check_count (level_of asked count)

-- what is asked for is this, or not said
abbrev pub may_be : Option ℕ → ℕ → Bool
may_be None n = true
may_be (Some m) n = m == n

-- the rows in so many columns: as many as are asked for, or the fewest
abbrev pub rows_of : Asked → ℕ → ℕ → ℕ
rows_of asked all columns = unwrap_or asked.rows (max 3 ((all + columns - 1) / columns))

-- where neither columns nor rows are asked for, the symbol isn't higher than wide, with rows of three modules
abbrev pub is_wide : Asked → ℕ → ℕ → Bool
is_wide asked columns rows =
    not (is_none asked.columns && is_none asked.rows) || nat_le (3 * rows) (17 * columns + 69)

-- so many columns have room for so many codewords: 3 to 90 rows, 928 codewords at most
unfoldable pub fits : Asked → ℕ → ℕ → Bool
fits asked all columns =
    let rows = rows_of asked all columns in
    may_be asked.columns columns && (nat_le 3 rows && (nat_le rows 90 && (nat_le all (columns * rows)
    && (nat_le (columns * rows) 928 && is_wide asked columns rows))))

-- the fewest columns that fit, of 1 to 30
unfoldable pub columns_of : Asked → ℕ → Option ℕ
columns_of asked all = first_from (fits asked all) 1 30

-- the size in so many columns, for so many data codewords
abbrev pub size_in : Asked → ℕ → ℕ → Size
size_in asked count columns =
    record {
      columns = columns;
      rows = rows_of asked (needed asked count) columns;
      level = level_of asked count;
      compact = asked.compact;
    }

abbrev pub sized : Asked → ℕ → Option ℕ → Option Size
sized asked count None = None
sized asked count (Some columns) = Some (size_in asked count columns)

-- the size for so many data codewords
abbrev pub size_for : Asked → ℕ → Option Size
size_for asked count = sized asked count (columns_of asked (needed asked count))

-- how many codewords there are in all, and of data
abbrev pub total : Size → ℕ
total s = s.columns * s.rows

abbrev pub data_count : Size → ℕ
data_count s = total s - check_count s.level

-- a size's numbers are within these
pub record IsSound (s : Size) : Type 0 where
  pub columns_some : 1 ≤ s.columns
  pub columns : s.columns ≤ 30
  pub rows_some : 3 ≤ s.rows
  pub rows : s.rows ≤ 90
  pub all : total s ≤ 928
  pub level : s.level ≤ 8
  pub data_some : check_count s.level < total s
