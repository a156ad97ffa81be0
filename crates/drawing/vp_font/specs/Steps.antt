-- What a line says where a file stands (technical note 5005, 3).
use Rattle.std.specs.Prelude.{ℕ, ◌-◌, ◌==◌, not, nat_lt, Bool, true, List, Option, Some, None, Result, Ok, Err, pos, is_some, if◌then◌else◌}
use Rattle.vp_font.specs.declared.fault.Fault.{Fault}
use Rattle.vp_font.specs.declared.fault.Fault.TheVariants as fault
use Rattle.vp_font.specs.declared.head.Head.{Head}
use Rattle.vp_font.specs.declared.keyword.Keyword.{Keyword}
use Rattle.vp_font.specs.declared.keyword.Keyword.TheVariants as about
use Rattle.vp_font.specs.declared.parts.Parts.{Parts}
use Rattle.vp_font.specs.declared.parts.Begun.{Begun}
use Rattle.vp_font.specs.declared.parts.Begun.TheVariants as begins
use Rattle.vp_font.specs.declared.state.Place.{Place}
use Rattle.vp_font.specs.declared.state.Place.TheVariants.{Start, Head as InHead, Between, Letter as InLetter, Rows, Passed}
use Rattle.vp_font.specs.declared.state.State.{State}
use Rattle.vp_font.specs.declared.state.Given.{Given}
use Rattle.vp_font.specs.declared.state.Given.TheVariants.{Nothing, Letter, Row, End}
use Rattle.vp_font.specs.Words.{word}
use Rattle.vp_font.specs.Keywords.{keyword}
use Rattle.vp_font.specs.Ranges.{◌>>=◌, whole_at}
use Rattle.vp_font.specs.Heads.{empty, with_line, metrics}
use Rattle.vp_font.specs.Letters.{no_parts, with_part, complete}
use Rattle.vp_font.specs.Rows.{row_bytes, is_row}

-- before the first line
abbrev pub start : State
start = record {
  place = Start;
  metrics = record { ascent = pos 0; descent = pos 0; default_char = None };
  to_come = 0;
  last = None;
}

abbrev pub Step : Type 0
Step = Result (State × Given) Fault

-- what the first word of a line says
abbrev pub about_of : List ℕ → Keyword
about_of line = keyword (word 0 line)

-- a row that is given begins its line
abbrev pub row_fits : Given → List ℕ → Bool
row_fits (Row bytes) line = is_row bytes line
row_fits _ line = true

-- the first line
unfoldable pub at_start : State → List ℕ → Step
at_start s line = by (about_of line)
  where
    by : Keyword → Step
    by about.StartFont = Ok (record s { place = InHead empty }, Nothing)
    by _ = Err fault.NotBdf

-- a line before CHARS, or that one, by what it is about
abbrev pub head_line : Keyword → State → Head → List ℕ → Step
head_line about.Chars s told line = whole_at 1 65535 fault.Count line >>= λ n. metrics told >>= λ m.
    Ok (record s { to_come = n; metrics = m; place = Between }, Nothing)
head_line about.StartChar s told line = Err fault.More
head_line about.EndFont s told line = Err fault.NoLetter
head_line other s told line =
    with_line told other line >>= λ more. Ok (record s { place = InHead more }, Nothing)

unfoldable pub in_head : State → Head → List ℕ → Step
in_head s told line = head_line (about_of line) s told line

-- a line between letters: one more begins, or the font ends
unfoldable pub between : State → Keyword → Step
between s about.StartChar = if s.to_come == 0 then Err fault.More
    else Ok (record s { to_come = s.to_come - 1; place = InLetter no_parts }, Nothing)
between s about.EndFont = if nat_lt 0 s.to_come then Err fault.Fewer
    else if not (is_some s.last) then Err fault.NoLetter
    else Ok (s, End)
between s _ = Ok (s, Nothing)

-- a letter's rows come
abbrev pub rows_come : State → Begun → State × Given
rows_come s (begins.Passed shape) =
    (record s { place = Passed shape.height (row_bytes shape.width) }, Nothing)
rows_come s (begins.Letter letter) = (
  record s { place = Rows letter.shape.height (row_bytes letter.shape.width); last = Some letter.code },
  Letter letter,
)

unfoldable pub at_bitmap : State → Parts → Step
at_bitmap s parts = complete parts >>= λ b. Ok (rows_come s b)

-- a line of a letter, up to BITMAP
abbrev pub letter_line : Keyword → State → Parts → List ℕ → Step
letter_line about.Bitmap s parts line = at_bitmap s parts
letter_line other s parts line =
    with_part parts s.last other line >>= λ more. Ok (record s { place = InLetter more }, Nothing)

unfoldable pub in_letter : State → Parts → List ℕ → Step
in_letter s parts line = letter_line (about_of line) s parts line

-- behind the last row: the letter ends
abbrev pub ends_letter : Keyword → Result (Option ℕ) Fault
ends_letter about.EndChar = Ok None
ends_letter _ = Err fault.Row

-- a row, or the letter's end behind the last one: how many rows are left
unfoldable pub row_or_end : ℕ → ℕ → List ℕ → Result (Option ℕ) Fault
row_or_end left bytes line = if nat_lt 0 left
    then (if is_row bytes line then Ok (Some (left - 1)) else Err fault.Row)
    else ends_letter (about_of line)

abbrev pub row_of_letter : State → ℕ → Option ℕ → State × Given
row_of_letter s bytes None = (record s { place = Between }, Nothing)
row_of_letter s bytes (Some left) = (record s { place = Rows left bytes }, Row bytes)

unfoldable pub in_rows : State → ℕ → ℕ → List ℕ → Step
in_rows s left bytes line = row_or_end left bytes line >>= λ r. Ok (row_of_letter s bytes r)

-- the rows of a letter without a code are passed
abbrev pub row_passed : State → ℕ → Option ℕ → State × Given
row_passed s bytes None = (record s { place = Between }, Nothing)
row_passed s bytes (Some left) = (record s { place = Passed left bytes }, Nothing)

unfoldable pub in_passed : State → ℕ → ℕ → List ℕ → Step
in_passed s left bytes line = row_or_end left bytes line >>= λ r. Ok (row_passed s bytes r)

-- what a line does and gives, by where the file stands
abbrev pub step_at : Place → State → List ℕ → Step
step_at Start s line = at_start s line
step_at (InHead told) s line = in_head s told line
step_at Between s line = between s (about_of line)
step_at (InLetter parts) s line = in_letter s parts line
step_at (Rows left bytes) s line = in_rows s left bytes line
step_at (Passed left bytes) s line = in_passed s left bytes line

unfoldable pub step : State → List ℕ → Step
step s line = step_at s.place s line
