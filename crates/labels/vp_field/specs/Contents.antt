-- What fields show: the box of a content, as it is read, and its ink.
use Rattle.std.specs.Prelude.{◌≡◌, ℕ, ◌+◌, ◌-◌, ◌*◌, ◌/◌, ◌%◌, ◌<◌, ◌≤◌, ◌≤ℤ◌, pos, neg_ℤ, Bool, false, ◌&&◌, List, length, take, drop, nat_lt, is_none, None, Result, Ok, Err, if◌then◌else◌}
use Rattle.vp_dots.specs.Dots.{bit}
use Rattle.vp_dots.specs.declared.fault.Fault.{Fault}
use Rattle.vp_glyph.specs.Sheets.{Sheets}
use Rattle.vp_glyph.specs.declared.cell.Font.TheVariants.{A}
use Rattle.vp_glyph.specs.Texts.{text_dot, seen_cells}
use Rattle.vp_glyph.specs.declared.runs.TheConstants.{ROWS}
use Rattle.vp_glyph.specs.Blocks.{BlockLayout, block_width, block_height, block_dot, pitch}
use Rattle.vp_bar_code.specs.declared.HriPosition.{HriPosition}
use Rattle.vp_bars.specs.Symbols.{Linear}
use Rattle.vp_bars.specs.Symbologies.{symbol_of}
use Rattle.vp_bars.specs.Boxes.{Boxed, box_width, box_height, box_dot, box_pieces}
use Rattle.vp_qr.specs.declared.level.Level.{Level}
use Rattle.vp_qr.specs.declared.segment.Mode.{Mode}
use Rattle.vp_qr.specs.Encoding.{refusal, version_of, mask_of, symbol_module}
use Rattle.vp_qr.specs.Places.{size}
use Rattle.vp_zpl.specs.declared.item.Orientation.{Orientation}
use Rattle.vp_zpl.specs.declared.item.Orientation.TheVariants.{Normal}
use Rattle.vp_format.specs.Pictures as pictures
use Rattle.vp_format.specs.Pictures.{value, is_refused}
use Rattle.vp_format.specs.declared.field.Content.{Content}
use Rattle.vp_format.specs.declared.field.Content.TheVariants as contents
use Rattle.vp_format.specs.declared.format.TheConstants.{STORED}
use Rattle.vp_format.specs.declared.field.Span.{Span}
use Rattle.vp_format.specs.declared.field.Text.{Text}
use Rattle.vp_format.specs.declared.field.TextBlock.{TextBlock}
use Rattle.vp_format.specs.declared.field.Picture.{Picture}
use Rattle.vp_format.specs.declared.field.QrSymbol.{QrSymbol}
use Rattle.vp_format.specs.declared.field.MatrixSymbol.{MatrixSymbol}
use Rattle.vp_shapes.specs.Ellipses.{ring_dot}
use Rattle.vp_shapes.specs.Diagonals.{diagonal_dot}
use Rattle.vp_field.specs.Frames.{frame_dot}
use Rattle.vp_field.specs.Matrices.{matrix_width, matrix_height, matrix_dot}
use Rattle.vp_field.specs.Axes.{lines_of}
use Rattle.vp_field.specs.declared.axis.Lines.{Lines}
use Rattle.vp_field.specs.declared.axis.Lines.TheVariants.{Along, Across}
use Rattle.vp_label_size.specs.declared.TheConstants.{BAND_BYTES, BAND_ROWS, WIDEST}

-- the bytes that a span names among the stored ones
abbrev pub bytes_of : List ℕ → Span → List ℕ
bytes_of stored s = take s.len (drop s.start stored)

-- the bars of a symbol and their text, which is drawn in font A
abbrev pub boxed_as : Sheets → ℕ → ℕ → ℕ → HriPosition → Linear → Boxed
boxed_as sheets narrow wide height place bars =
    record {
      bars = bars;
      narrow = narrow;
      wide = wide;
      height = height;
      sheets = sheets;
      font = A;
      place = place;
    }

-- data without a symbol have no box
abbrev pub bars_width : Sheets → ℕ → ℕ → ℕ → HriPosition → Result Linear Fault → ℕ
bars_width sheets narrow wide height place (Err why) = 0
bars_width sheets narrow wide height place (Ok bars) =
    box_width (boxed_as sheets narrow wide height place bars)

abbrev pub bars_height : Sheets → ℕ → ℕ → ℕ → HriPosition → Result Linear Fault → ℕ
bars_height sheets narrow wide height place (Err why) = 0
bars_height sheets narrow wide height place (Ok bars) =
    box_height (boxed_as sheets narrow wide height place bars)

abbrev pub bars_dot : Sheets → ℕ → ℕ → ℕ → HriPosition → Result Linear Fault → ℕ → ℕ → Bool
bars_dot sheets narrow wide height place (Err why) x y = false
bars_dot sheets narrow wide height place (Ok bars) x y =
    box_dot (boxed_as sheets narrow wide height place bars) x y

-- a QR symbol, each module a square of `scale` dots a row
abbrev pub qr_side : Level → Mode → List ℕ → ℕ → ℕ
qr_side level mode bytes scale =
    if is_none (refusal level mode bytes) then scale * size (version_of level mode bytes) else 0

abbrev pub qr_dot : Level → Mode → List ℕ → ℕ → ℕ → ℕ → Bool
qr_dot level mode bytes scale x y =
    nat_lt x (qr_side level mode bytes scale) && nat_lt y (qr_side level mode bytes scale)
    && symbol_module level mode bytes (y / scale) (x / scale)

-- how the lines of a block are laid
abbrev pub block_layout : Sheets → TextBlock → BlockLayout
block_layout sheets b = record {
  sheet = sheets.a;
  w = b.text.width;
  h = b.text.height;
  wide = b.width;
  rows = b.lines;
  pitch = pitch b.text.height b.gap;
  alignment = b.alignment;
}

-- the picture whose codes are stored
abbrev pub picture_of : List ℕ → Picture → pictures.Picture
picture_of stored p =
    record { coding = p.coding; codes = bytes_of stored p.codes; row_bytes = p.row_bytes; rows = p.rows }

-- a picture: four dots to a place of a row, the value's highest bit first
unfoldable pub picture_dot : pictures.Picture → ℕ → ℕ → Bool
picture_dot p x y = nat_lt x (8 * p.row_bytes) && nat_lt y p.rows && bit (value p y (x / 4)) (3 - x % 4)

-- the box as it is read
abbrev pub content_width : Sheets → List ℕ → Content → ℕ
content_width sheets stored (contents.Text t) = t.width * length (bytes_of stored t.bytes)
content_width sheets stored (contents.Block b) = block_width b.width b.text.width
content_width sheets stored (contents.Box b) = b.width
content_width sheets stored (contents.Picture p) = 8 * p.row_bytes
content_width sheets stored (contents.Bars b) =
    bars_width sheets b.narrow b.wide b.height b.place (symbol_of b.code (bytes_of stored b.bytes))
content_width sheets stored (contents.Qr q) = qr_side q.level q.mode (bytes_of stored q.bytes) q.module
content_width sheets stored (contents.Matrix m) = matrix_width m
content_width sheets stored (contents.Ring r) = r.width
content_width sheets stored (contents.Diagonal d) = d.width

abbrev pub content_height : Sheets → List ℕ → Content → ℕ
content_height sheets stored (contents.Text t) = t.height
content_height sheets stored (contents.Block b) =
    block_height b.text.height b.lines (pitch b.text.height b.gap)
content_height sheets stored (contents.Box b) = b.height
content_height sheets stored (contents.Picture p) = p.rows
content_height sheets stored (contents.Bars b) =
    bars_height sheets b.narrow b.wide b.height b.place (symbol_of b.code (bytes_of stored b.bytes))
content_height sheets stored (contents.Qr q) = qr_side q.level q.mode (bytes_of stored q.bytes) q.module
content_height sheets stored (contents.Matrix m) = matrix_height m
content_height sheets stored (contents.Ring r) = r.height
content_height sheets stored (contents.Diagonal d) = d.height

-- its ink
abbrev pub content_dot : Sheets → List ℕ → Content → ℕ → ℕ → Bool
content_dot sheets stored (contents.Text t) x y =
    text_dot sheets.a (bytes_of stored t.bytes) t.width t.height x y
content_dot sheets stored (contents.Block b) x y =
    block_dot (block_layout sheets b) (bytes_of stored b.text.bytes) x y
content_dot sheets stored (contents.Box b) x y = frame_dot b.width b.height b.thickness x y
content_dot sheets stored (contents.Picture p) x y = picture_dot (picture_of stored p) x y
content_dot sheets stored (contents.Bars b) x y =
    bars_dot sheets b.narrow b.wide b.height b.place (symbol_of b.code (bytes_of stored b.bytes)) x y
content_dot sheets stored (contents.Qr q) x y = qr_dot q.level q.mode (bytes_of stored q.bytes) q.module x y
content_dot sheets stored (contents.Matrix m) x y = matrix_dot m (bytes_of stored m.modules) x y
content_dot sheets stored (contents.Ring r) x y = ring_dot r.width r.height r.thickness x y
content_dot sheets stored (contents.Diagonal d) x y = diagonal_dot d.width d.height d.thickness d.leaning x y

-- boxes, other shapes, pictures and QR symbols are not turned
abbrev pub orientation_of : Orientation → Content → Orientation
orientation_of o (contents.Text t) = o
orientation_of o (contents.Block b) = o
orientation_of o (contents.Box b) = Normal
orientation_of o (contents.Picture p) = Normal
orientation_of o (contents.Bars b) = o
orientation_of o (contents.Qr q) = Normal
orientation_of o (contents.Matrix m) = o
orientation_of o (contents.Ring r) = Normal
orientation_of o (contents.Diagonal d) = Normal

-- the bytes lie among the stored ones, of which a format has room for `STORED`
pub record LiesIn (stored : List ℕ) (s : Span) : Type 0 where
  pub inside : s.start + s.len ≤ length stored
  pub few : s.len ≤ STORED

-- the ranges of a text (^CF and ^A)
pub record IsText (stored : List ℕ) (t : Text) : Type 0 where
  pub bytes : LiesIn stored t.bytes
  pub some : 0 < t.width
  pub width : t.width ≤ 1500
  pub height : t.height ≤ 1500

-- and of a block of lines (^FB)
pub record IsTextBlock (stored : List ℕ) (b : TextBlock) : Type 0 where
  pub text : IsText stored b.text
  pub width : b.width ≤ 32000
  pub lines : b.lines ≤ 9999
  pub gap_low : neg_ℤ (pos 9999) ≤ℤ b.gap
  pub gap_high : b.gap ≤ℤ pos 9999

-- a picture has rows of 1 to 1,024 bytes, and no code of its rows is refused (^GF)
pub record IsPicture (stored : List ℕ) (p : Picture) : Type 0 where
  pub codes : LiesIn stored p.codes
  pub some : 0 < p.row_bytes
  pub short : p.row_bytes ≤ 1024
  pub read : (y : ℕ) → y < p.rows → is_refused (picture_of stored p) y ≡ false

-- a QR symbol has modules of some dots (^BQ: 1 to 10), and keeps the version and the mask of its data
pub record IsSymbol (stored : List ℕ) (q : QrSymbol) : Type 0 where
  pub bytes : LiesIn stored q.bytes
  pub some : 0 < q.module
  pub most : q.module ≤ 16
  pub accepted : refusal q.level q.mode (bytes_of stored q.bytes) ≡ None
  pub version : q.version ≡ version_of q.level q.mode (bytes_of stored q.bytes)
  pub mask : q.mask ≡ mask_of q.level q.mode (bytes_of stored q.bytes)

-- a two-dimensional symbol has modules of some dots (^BX, ^B7, ^BO), and its modules are stored
pub record IsMatrixSymbol (stored : List ℕ) (m : MatrixSymbol) : Type 0 where
  pub modules : LiesIn stored m.modules
  pub wide_some : 0 < m.wide
  pub wide_most : m.wide ≤ 64
  pub high_some : 0 < m.high
  pub high_most : m.high ≤ 1000

-- a content whose parameters are in their ranges, and whose bytes are stored
abbrev pub IsStored : List ℕ → Content → Type 0
IsStored stored (contents.Text t) = IsText stored t
IsStored stored (contents.Block b) = IsTextBlock stored b
IsStored stored (contents.Box b) = Unit {0}
IsStored stored (contents.Picture p) = IsPicture stored p
IsStored stored (contents.Bars b) = LiesIn stored b.bytes
IsStored stored (contents.Qr q) = IsSymbol stored q
IsStored stored (contents.Matrix m) = IsMatrixSymbol stored m
IsStored stored (contents.Ring r) = Unit {0}
IsStored stored (contents.Diagonal d) = Unit {0}

-- how many lines of ink are drawn on a band at most: one a row of the band where they lie along its rows;
-- where they lie across, one a column of the widest label, and eight
abbrev pub most_lines : Lines → ℕ
most_lines Along = BAND_ROWS
most_lines Across = WIDEST + 8

-- of how many dots a line can be seen on a band
abbrev pub seen_dots : Lines → ℕ
seen_dots Along = 8 * BAND_BYTES
seen_dots Across = BAND_ROWS

-- what lines take on a band at most that have so many pieces where so many dots can be seen: each counts
-- once, and each of its pieces
abbrev pub lines_cost : Lines → (ℕ → ℕ) → ℕ
lines_cost lines pieces = most_lines lines * (1 + pieces (seen_dots lines))

-- and a block whose text has so many lines and cells. Those above the band are passed once. Along the rows
-- of the band, the others are walked and painted for each row; where they meet, first for all rows, at most
-- once for each and once more. Across, they are walked and drawn once for all columns of the label, which are
-- then laid
abbrev pub block_cost : Lines → ℕ → ℕ
block_cost Along pieces = pieces + 2 * (ROWS + 1) * pieces + lines_cost Along (λ d. 2 * pieces)
block_cost Across pieces = pieces + 2 * pieces + (2 * WIDEST + 8)

-- what painting a content that is turned so takes on a band at most. Of a picture each byte of its codes is
-- read once, no more rows than these bytes and two are passed, and 32 rows fall on the band; of other
-- contents the lines of ink count, and what they are made of: the cells of a text, the characters of a bar
-- code or the cells of its text. A line of a box or of another shape is one piece, and so is one of a
-- two-dimensional symbol
abbrev pub most_work : Orientation → Content → ℕ
most_work o (contents.Text t) = lines_cost (lines_of o) (seen_cells t.bytes.len t.width)
most_work o (contents.Block b) = block_cost (lines_of o) (2 * b.text.bytes.len + 1)
most_work o (contents.Box b) = lines_cost Along (λ d. 1)
most_work o (contents.Picture p) = 2 * p.codes.len + (BAND_ROWS + 2)
most_work o (contents.Bars b) = lines_cost (lines_of o) box_pieces
most_work o (contents.Qr q) = lines_cost Along (λ d. 1)
most_work o (contents.Matrix m) = lines_cost (lines_of o) (λ d. 1)
most_work o (contents.Ring r) = lines_cost Along (λ d. 1)
most_work o (contents.Diagonal d) = lines_cost Along (λ d. 1)
