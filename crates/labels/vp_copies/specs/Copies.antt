-- The copies of an image, and what is left of them.
use Rattle.std.specs.Prelude.{ℕ, zero, suc, ◌+◌, ◌-◌, ◌*◌, ◌/◌, min, nat_lt, List, [], ◌++◌, length, drop, if◌then◌else◌, Option, Some, None}
use Rattle.vp_dots.specs.Headers.{header_of}
use Rattle.vp_dots.specs.Images.{Image, row_bytes, image_row, pbm}
use Rattle.vp_output.specs.declared.place.Line.{Line}
use Rattle.vp_output.specs.declared.place.Line.TheVariants.{Head, Row}
use Rattle.vp_output.specs.declared.place.Place.{Place as InImage}
use Rattle.vp_output.specs.Lines.{Lined}
use Rattle.vp_output.specs.Places.{advanced as advanced_in}
use Rattle.vp_copies.specs.declared.place.Ahead.{Ahead}
use Rattle.vp_copies.specs.declared.place.Ahead.TheVariants.{Nothing, Copy, Band}
use Rattle.vp_label_size.specs.declared.TheConstants.{BAND_ROWS}

-- the next byte to put out: how many copies are not put out whole, and where it is in the first of them
pub record Place : Type 0 where
  pub copies : ℕ
  pub line : Line
  pub byte : ℕ

-- the text of this number of copies of an image, one behind the other
abbrev pub copies_text : Image → ℕ → List ℕ
copies_text i zero = []
copies_text i (suc copies) = pbm i ++ copies_text i copies

-- how many bytes of a copy `width` dots wide and `height` rows high stand before a line
abbrev pub bytes_above : ℕ → ℕ → Line → ℕ
bytes_above width height Head = 0
bytes_above width height (Row y) = length (header_of width height) + y * row_bytes width

-- what is still to be put out: of the copies that aren't put out whole, all that stands behind the place
abbrev pub pending : Image → Place → List ℕ
pending i p = drop (bytes_above i.width i.height p.line + p.byte) (copies_text i p.copies)

-- an image by lines: its header, and its rows
abbrev pub lines_of : Image → Lined
lines_of i = record { head = header_of i.width i.height; rows = i.height; row = image_row i }

-- how many bytes a line has
abbrev pub line_bytes : ℕ → ℕ → Line → ℕ
line_bytes width height Head = length (header_of width height)
line_bytes width height (Row y) = row_bytes width

-- a place in the first of `copies` copies
abbrev pub at : ℕ → InImage → Place
at copies p = record { copies = copies; line = p.line; byte = p.byte }

-- behind the last row the next copy begins
abbrev pub place_after : ℕ → Option InImage → Place
place_after copies None = record { copies = copies - 1; line = Head; byte = 0 }
place_after copies (Some p) = at copies p

-- the place `n` bytes further on in its line, or behind it
abbrev pub advanced : ℕ → ℕ → ℕ → Place → Place
advanced width height n p =
    place_after p.copies
    (advanced_in height (line_bytes width height p.line) n (record { line = p.line; byte = p.byte }))

-- what has to be ready before a byte of a line is put out, where so many bands were painted: a row wants its
-- band where it isn't painted, and a copy begins anew behind one of more than one band. A single band still
-- stands as it was painted, for all copies
abbrev pub ahead : ℕ → Line → Ahead
ahead painted Head = if nat_lt 1 painted then Copy else Nothing
ahead painted (Row y) = if nat_lt (y / BAND_ROWS) painted then Nothing else Band (y / BAND_ROWS)

-- how many bands of the copy of a line were painted, where so many of it or of the one before were
abbrev pub painted_of : ℕ → Line → ℕ
painted_of painted Head = if nat_lt 1 painted then 0 else painted
painted_of painted (Row y) = painted

-- and how many are once what has to be ready is
abbrev pub painted_for : ℕ → Line → ℕ
painted_for painted Head = painted_of painted Head
painted_for painted (Row y) = y / BAND_ROWS + 1

-- how many rows of an image `height` rows high are in the band of a line, none for the header
abbrev pub band_rows : ℕ → Line → ℕ
band_rows height Head = 0
band_rows height (Row y) = min BAND_ROWS (height - BAND_ROWS * (y / BAND_ROWS))
