-- Fields, and what they do to a label.
use Rattle.std.specs.Prelude.{◌≡◌, ℕ, ℤ, Bool, List, Option, None, Some, Ok, is_ok, false, slice_index_or}
use Rattle.vp_glyph.specs.Sheets.{Sheets}
use Rattle.vp_format.specs.Cursors.{marked_row, IsMark}
use Rattle.vp_format.specs.declared.field.Content.{Content}
use Rattle.vp_format.specs.declared.field.Content.TheVariants.{Picture, Qr}
use Rattle.vp_format.specs.declared.field.Content.TheVariants as contents
use Rattle.vp_format.specs.declared.field.BarSymbol.{BarSymbol}
use Rattle.vp_format.specs.declared.field.QrSymbol.{QrSymbol}
use Rattle.vp_bars.specs.Symbologies.{symbol_of}
use Rattle.vp_qr.specs.Inks.{ScaledSymbol, side, ink_of}
use Rattle.vp_format.specs.declared.field.Field.{Field}
use Rattle.vp_format.specs.declared.rows.RunMark.{RunMark}
use Rattle.vp_field.specs.declared.marks.Marks.{Marks}
use Rattle.vp_field.specs.declared.marks.Marks.TheVariants.{Nothing, Picture as Left, Symbol, Bars}
use Rattle.vp_field.specs.declared.marks.Places.{Places}
use Rattle.vp_field.specs.Contents.{bytes_of, qr_side, qr_dot, content_width, content_height, content_dot, orientation_of, picture_of, IsStored}
use Rattle.vp_field.specs.Standing.{standing, IsNear}
use Rattle.vp_field.specs.Strokes.{Stroke}
use Rattle.vp_field.specs.Turning.{turned_height}

-- the ink of a field on its label, where it shows stored bytes
abbrev pub field_ink : Sheets → List ℕ → Field → ℤ → ℤ → Bool
field_ink sheets stored f =
    standing f.left f.top (orientation_of f.orientation f.content) (content_width sheets stored f.content)
    (content_height sheets stored f.content) (content_dot sheets stored f.content)

-- how many rows the box of a field has, turned, whatever its width
abbrev pub box_rows : Sheets → List ℕ → Field → ℕ
box_rows sheets stored f =
    turned_height (orientation_of f.orientation f.content) (content_width sheets stored f.content)
    (content_height sheets stored f.content)

-- a field as a format keeps it: it stands near its label, what it shows is stored, and its rows are those of
-- its box, whatever sheets its text is drawn from
pub record IsKept (stored : List ℕ) (f : Field) : Type 0 where
  pub near : IsNear f.left f.top
  pub content : IsStored stored f.content
  pub rows : (sheets : Sheets) → f.rows ≡ box_rows sheets stored f

abbrev pub stroke_of : Sheets → List ℕ → Field → Stroke
stroke_of sheets stored f = record { op = f.op; ink = field_ink sheets stored f }

-- a mark that is kept of a picture was made in it
abbrev pub IsMarkOf : List ℕ → Content → Option RunMark → Type 0
IsMarkOf stored c None = Unit {0}
IsMarkOf stored (Picture p) (Some mark) = IsMark (picture_of stored p) mark
IsMarkOf stored _ (Some mark) = Unit {0}

-- the row before which a cursor at the mark stands, and the first where there is none
abbrev pub row_at : Option RunMark → ℕ
row_at None = 0
row_at (Some mark) = marked_row mark

-- each of several marks was made in it
pub record ArePlacesOf (stored : List ℕ) (c : Content) (places : Places) : Type 0 where
  pub on_way : (k : ℕ) → IsMarkOf stored c (slice_index_or places.on_way k None)
  pub behind : IsMarkOf stored c (Some places.behind)

-- a symbol that is drawn is that of the data
pub record IsDrawn (stored : List ℕ) (q : QrSymbol) (s : ScaledSymbol) : Type 0 where
  pub side : side s ≡ qr_side q.level q.mode (bytes_of stored q.bytes) q.module
  pub ink : (x y : ℕ) → ink_of s x y ≡ qr_dot q.level q.mode (bytes_of stored q.bytes) q.module x y

-- what is left of a linear symbol is that of the data, and nothing is where these have none
abbrev pub IsEncoded : List ℕ → BarSymbol → Marks → Type 0
IsEncoded stored b (Bars symbol) = symbol_of b.code (bytes_of stored b.bytes) ≡ Ok symbol
IsEncoded stored b _ = is_ok (symbol_of b.code (bytes_of stored b.bytes)) ≡ false

-- what is left of a content: marks that were made in its picture, or its symbol
abbrev pub AreMarksOf : List ℕ → Content → Marks → Type 0
AreMarksOf stored c Nothing = Unit {0}
AreMarksOf stored c (Left places) = ArePlacesOf stored c places
AreMarksOf stored (Qr q) (Symbol left) = IsDrawn stored q left.ink
AreMarksOf stored _ (Symbol left) = Unit {0}
AreMarksOf stored (contents.Bars b) (Bars symbol) = IsEncoded stored b (Bars symbol)
AreMarksOf stored _ (Bars symbol) = Unit {0}

abbrev pub no_marks : Marks
no_marks = Nothing
