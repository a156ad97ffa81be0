-- An image's bytes by lines: its header, and its rows.
use Rattle.std.specs.Prelude.{ℕ, ◌+◌, ◌-◌, ◌<◌, List, flat_map}
use Rattle.std.specs.List.{range_with_len}
use Rattle.vp_output.specs.declared.place.Line.{Line}
use Rattle.vp_output.specs.declared.place.Line.TheVariants.{Head, Row}

-- a header, and `rows` rows, each with its bytes
pub record Lined : Type 0 where
  pub head : List ℕ
  pub rows : ℕ
  pub row : ℕ → List ℕ

-- the bytes of a line
abbrev pub line_text : Lined → Line → List ℕ
line_text t Head = t.head
line_text t (Row y) = t.row y

-- the row that comes after a line
abbrev pub row_after : Line → ℕ
row_after Head = 0
row_after (Row y) = y + 1

-- the rows from row y on
abbrev pub rows_from : Lined → ℕ → List ℕ
rows_from t y = flat_map t.row (range_with_len y (t.rows - y))

-- a line is the header, or one of `rows` rows
abbrev pub IsLineOf : ℕ → Line → Type 0
IsLineOf rows Head = Unit {0}
IsLineOf rows (Row y) = y < rows
