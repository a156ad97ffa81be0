-- What a field shows as the format keeps it, or why it is refused.
use Rattle.std.specs.Prelude.{◌≡◌, ℕ, ◌-◌, ◌++◌, false, List, [], length, Option, Some, None, Result, Ok, Err}
use Rattle.vp_dots.specs.declared.fault.Fault.{Fault}
use Rattle.vp_dots.specs.declared.fault.Fault.TheVariants as faults
use Rattle.vp_dots.specs.declared.fault.Why.TheVariants.{Unsupported}
use Rattle.vp_qr_field.specs.Fronts.{front_of}
use Rattle.vp_format.specs.declared.field.Span.{Span}
use Rattle.vp_format.specs.declared.field.Content.{Content}
use Rattle.vp_format.specs.declared.field.Content.TheVariants as contents
use Rattle.vp_glyph.specs.Sheets.{Sheets}
use Rattle.vp_field.specs.Contents.{bytes_of, picture_of, IsStored, IsMatrixSymbol}
use Rattle.vp_field.specs.Sizes.{sized}
use Rattle.vp_field.specs.declared.sized.SizedContent.{SizedContent}
use Rattle.vp_label_settings.specs.declared.settings.Settings.{Settings}
use Rattle.vp_label_settings.specs.declared.choice.SymbolChoice.{SymbolChoice}
use Rattle.vp_label_settings.specs.declared.choice.SymbolChoice.TheVariants.{Bars, NotDrawn, Qr, Matrix}
use Rattle.vp_label_settings.specs.declared.graphic.PictureHead.{PictureHead}
use Rattle.vp_label_settings.specs.declared.parts.OpenContent.{OpenContent}
use Rattle.vp_label_settings.specs.declared.parts.OpenContent.TheVariants.{Data, Frame, Ring, Diagonal, Picture}
use Rattle.vp_label_settings.specs.declared.parts.FieldParts.{FieldParts}
use Rattle.vp_closing.specs.Texts.{text_size, text_drawn, text_content}
use Rattle.vp_closing.specs.Graphics.{picture_with, has_refused, picture_unless}
use Rattle.vp_closing.specs.Symbols.{bars, bars_of, qr_of}
use Rattle.vp_closing.specs.Matrices.{matrix_of, matrix_made, code_of, escape_of, plain_data, data_refusal, have_no_room}
use Rattle.vp_label_settings.specs.declared.choice.MatrixAsked.{MatrixAsked}

-- the stored bytes from a place on
abbrev pub bytes_from : List ℕ → ℕ → Span
bytes_from stored start = record { start = start; len = length stored - start }

-- ^FD: data are drawn as the symbol that was asked for, or as a text
abbrev pub data_content : List ℕ → Settings → FieldParts → Option SymbolChoice → Span →
    Result Content Fault
data_content stored s p None bytes = Ok (text_content (text_drawn (text_size s p.font) bytes) p.block)
data_content stored s p (Some (Bars b)) bytes = bars_of stored (bars s.bar_defaults b bytes)
data_content stored s p (Some NotDrawn) bytes = Err (faults.Symbol Unsupported)
data_content stored s p (Some (Qr model dots)) bytes =
    qr_of stored dots bytes (front_of model (bytes_of stored bytes))
data_content stored s p (Some (Matrix choice)) bytes = matrix_of stored s.bar_defaults choice.asked bytes

-- a picture, unless a code of its rows is refused
abbrev pub picture_content : List ℕ → PictureHead → Span → Result Content Fault
picture_content stored head bytes =
    picture_unless (has_refused (picture_of stored (picture_with head bytes))) (picture_with head bytes)

-- what a field shows; its bytes go from its start to the end of the stored ones
abbrev pub content_of : List ℕ → Settings → FieldParts → OpenContent → Result Content Fault
content_of stored s p (Data start) = data_content stored s p p.symbol (bytes_from stored start)
content_of stored s p (Frame b colour) = Ok (contents.Box b)
content_of stored s p (Ring r colour) = Ok (contents.Ring r)
content_of stored s p (Diagonal d colour) = Ok (contents.Diagonal d)
content_of stored s p (Picture head start) = picture_content stored head (bytes_from stored start)

-- the same with its size
abbrev pub sized_if : Sheets → List ℕ → Result Content Fault → Result SizedContent Fault
sized_if sheets stored (Err why) = Err why
sized_if sheets stored (Ok content) = Ok (sized sheets stored content)

-- what closing a field stores behind all that is: the modules of a two-dimensional symbol, and nothing else
abbrev pub made_with : List ℕ → Span → Option SymbolChoice → List ℕ
made_with stored bytes None = []
made_with stored bytes (Some (Bars b)) = []
made_with stored bytes (Some NotDrawn) = []
made_with stored bytes (Some (Qr model dots)) = []
made_with stored bytes (Some (Matrix choice)) = matrix_made stored choice.asked bytes

abbrev pub made_of : List ℕ → Option SymbolChoice → OpenContent → List ℕ
made_of stored choice (Data start) = made_with stored (bytes_from stored start) choice
made_of stored choice (Frame b colour) = []
made_of stored choice (Ring r colour) = []
made_of stored choice (Diagonal d colour) = []
made_of stored choice (Picture head start) = []

abbrev pub made_if : List ℕ → Option SymbolChoice → Option OpenContent → List ℕ
made_if stored choice None = []
made_if stored choice (Some content) = made_of stored choice content

-- all that is stored behind a field that is closed
abbrev pub stored_with : List ℕ → FieldParts → List ℕ
stored_with stored p = stored ++ made_if stored p.symbol p.content

-- data have the symbol, and its modules find room
pub record HaveSymbol (stored : List ℕ) (asked : MatrixAsked) (bytes : Span) : Type 0 where
  pub accepted : data_refusal (code_of asked (bytes_of stored bytes)) (escape_of asked)
      (bytes_of stored bytes) ≡ None
  pub room : have_no_room stored (code_of asked (bytes_of stored bytes))
      (plain_data (escape_of asked) (bytes_of stored bytes)) ≡ false

abbrev pub IsAccepted : List ℕ → Span → Option SymbolChoice → Type 0
IsAccepted stored bytes None = Unit {0}
IsAccepted stored bytes (Some (Bars b)) = Unit {0}
IsAccepted stored bytes (Some NotDrawn) = Unit {0}
IsAccepted stored bytes (Some (Qr model dots)) = Unit {0}
IsAccepted stored bytes (Some (Matrix choice)) = HaveSymbol stored choice.asked bytes

-- what a field makes can be stored
abbrev pub CanBeMade : List ℕ → Option SymbolChoice → Option OpenContent → Type 0
CanBeMade stored choice (Some (Data start)) = IsAccepted stored (bytes_from stored start) choice
CanBeMade stored choice _ = Unit {0}

-- what a field shows is stored, or will be behind what closing it makes
abbrev pub IsShown : List ℕ → List ℕ → Content → Type 0
IsShown stored made (contents.Matrix m) = IsMatrixSymbol (stored ++ made) m
IsShown stored made c = IsStored stored c
