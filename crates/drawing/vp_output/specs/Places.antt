-- Where the next byte of an image is, and what is left from there.
use Rattle.std.specs.Prelude.{ℕ, ◌+◌, nat_lt, List, [], ◌++◌, drop, Option, Some, None, if◌then◌else◌}
use Rattle.vp_output.specs.declared.place.Line.{Line}
use Rattle.vp_output.specs.declared.place.Line.TheVariants.{Row}
use Rattle.vp_output.specs.declared.place.Place.{Place}
use Rattle.vp_output.specs.Lines.{Lined, line_text, row_after, rows_from}

-- what is left: the rest of the place's line, and the rows after it
abbrev pub pending : Lined → Place → List ℕ
pending t p = drop p.byte (line_text t p.line) ++ rows_from t (row_after p.line)

-- nothing is left behind the last row
abbrev pub pending_if : Lined → Option Place → List ℕ
pending_if t None = []
pending_if t (Some p) = pending t p

-- the place behind a line: the next row's start, if there is one
abbrev pub behind_line : ℕ → Line → Option Place
behind_line rows l =
    if nat_lt (row_after l) rows then Some (record { line = Row (row_after l); byte = 0 }) else None

-- the place n bytes further on in a line of len bytes, or behind it
abbrev pub advanced : ℕ → ℕ → ℕ → Place → Option Place
advanced rows len n p =
    if nat_lt (p.byte + n) len
    then Some (record { line = p.line; byte = p.byte + n })
    else behind_line rows p.line
