-- The parts of the open field, by looking back: each is what the last command that
-- names it says, and ^FS and ^XZ forget them all.
use Rattle.std.specs.Prelude.{ℕ, Bool, true, false, Option, Some, None, option_map, unwrap_or, List, [], ◌∷◌, length}
use Rattle.vp_zpl.specs.declared.item.Colour.TheVariants.{Black}
use Rattle.vp_zpl.specs.declared.item.Command.{Command}
use Rattle.vp_zpl.specs.declared.item.Command.TheVariants.{FormatEnd, FieldSeparator, FieldOrigin, FieldTypeset, Font, Code39, Ean13, Code128, Linear, QrCode, DataMatrix, Pdf417, Aztec, ReversePrint, FieldBlock as SetBlock, FieldData, GraphicBox as DrawBox, GraphicCircle, GraphicEllipse, GraphicDiagonal, Graphic}
use Rattle.vp_zpl.specs.Items.{Item}
use Rattle.vp_bar_code.specs.declared.BarCode.TheVariants as codes
use Rattle.vp_label_settings.specs.declared.choice.FontChoice.{FontChoice}
use Rattle.vp_label_settings.specs.declared.choice.SymbolChoice.{SymbolChoice}
use Rattle.vp_label_settings.specs.declared.choice.FieldBlock.{FieldBlock}
use Rattle.vp_label_settings.specs.declared.graphic.PictureHead.{PictureHead}
use Rattle.vp_label_settings.specs.declared.parts.Origin.{Origin}
use Rattle.vp_label_settings.specs.declared.parts.Origin.TheVariants.{UpperLeft, LowerLeft}
use Rattle.vp_label_settings.specs.declared.parts.OpenContent.{OpenContent}
use Rattle.vp_label_settings.specs.declared.parts.OpenContent.TheVariants as contents
use Rattle.vp_label_settings.specs.declared.parts.FieldParts.{FieldParts}
use Rattle.vp_label_settings.specs.Formats.{is_open, acting, stored}
use Rattle.vp_label_settings.specs.Settings.{coordinate}
use Rattle.vp_label_settings.specs.Choices.{bar_choice, code128_choice, linear_choice, qr_choice, shape_of, data_matrix_choice, pdf417_asked, pdf417_choice, aztec_choice, field_block}
use Rattle.vp_label_settings.specs.Graphics.{box_of, circle_of, ellipse_of, diagonal_of, picture_head}

-- ^FO, ^FT: where the field stands, counted from the home
abbrev pub origin_by : Command → Origin → Origin
origin_by (FieldOrigin x y) old = UpperLeft (coordinate x) (coordinate y)
origin_by (FieldTypeset x y) old = LowerLeft (coordinate x) (coordinate y)
origin_by FieldSeparator old = UpperLeft 0 0
origin_by FormatEnd old = UpperLeft 0 0
origin_by _ old = old

abbrev pub origin : List Item → Origin
origin [] = UpperLeft 0 0
origin (item ∷ before) = acting origin_by (is_open before) item (origin before)

-- ^A: the font
abbrev pub font_by : Command → Option FontChoice → Option FontChoice
font_by (Font orientation height width) old =
    Some (record { orientation = orientation; height = height; width = width })
font_by FieldSeparator old = None
font_by FormatEnd old = None
font_by _ old = old

abbrev pub font : List Item → Option FontChoice
font [] = None
font (item ∷ before) = acting font_by (is_open before) item (font before)

-- what the whole language adds
abbrev pub added_by : Command → Option SymbolChoice → Option SymbolChoice
added_by (Linear code orientation height text above) old =
    Some (linear_choice code orientation height text above)
added_by (DataMatrix orientation side quality columns rows escape aspect) old =
    Some (data_matrix_choice orientation side quality (shape_of columns rows aspect) escape)
added_by (Pdf417 orientation height level columns rows truncated) old =
    Some (pdf417_choice orientation height (pdf417_asked level columns rows truncated))
added_by (Aztec orientation side control) old = Some (aztec_choice orientation side control)
added_by _ old = old

-- ^B3, ^BE, ^BC, ^BQ, and what the whole language adds: the symbol that data are drawn as
abbrev pub symbol_by : Command → Option SymbolChoice → Option SymbolChoice
symbol_by (Code39 orientation check height text above) old =
    Some (bar_choice (codes.Code39 (unwrap_or check false)) orientation height text above)
symbol_by (Ean13 orientation height text above) old =
    Some (bar_choice (codes.Ean13 true) orientation height text above)
symbol_by (Code128 orientation height text above mode) old =
    Some (code128_choice mode orientation height text above)
symbol_by (QrCode model dots) old = Some (qr_choice model dots)
symbol_by FieldSeparator old = None
symbol_by FormatEnd old = None
symbol_by command old = added_by command old

abbrev pub symbol : List Item → Option SymbolChoice
symbol [] = None
symbol (item ∷ before) = acting symbol_by (is_open before) item (symbol before)

-- ^FR: whether the field reverses
abbrev pub is_reversed_by : Command → Bool → Bool
is_reversed_by ReversePrint old = true
is_reversed_by FieldSeparator old = false
is_reversed_by FormatEnd old = false
is_reversed_by _ old = old

abbrev pub is_reversed : List Item → Bool
is_reversed [] = false
is_reversed (item ∷ before) = acting is_reversed_by (is_open before) item (is_reversed before)

-- ^FB: the block that a text stands in
abbrev pub block_by : Command → Option FieldBlock → Option FieldBlock
block_by (SetBlock width lines space justification) old = Some (field_block width lines space justification)
block_by FieldSeparator old = None
block_by FormatEnd old = None
block_by _ old = old

abbrev pub block : List Item → Option FieldBlock
block [] = None
block (item ∷ before) = acting block_by (is_open before) item (block before)

-- ^GB, ^GC, ^GE, ^GD: a shape, black where no colour is said
abbrev pub drawn_by : Command → Option OpenContent → Option OpenContent
drawn_by (DrawBox width height thickness colour) old =
    Some (contents.Frame (box_of width height thickness) (unwrap_or colour Black))
drawn_by (GraphicCircle diameter thickness colour) old =
    Some (contents.Ring (circle_of diameter thickness) (unwrap_or colour Black))
drawn_by (GraphicEllipse width height thickness colour) old =
    Some (contents.Ring (ellipse_of width height thickness) (unwrap_or colour Black))
drawn_by (GraphicDiagonal width height thickness colour leaning) old =
    Some (contents.Diagonal (diagonal_of width height thickness leaning) (unwrap_or colour Black))
drawn_by _ old = old

-- ^FD, ^GF, and shapes: the content; data begin behind what is stored before them
abbrev pub picture_behind : ℕ → PictureHead → OpenContent
picture_behind start head = contents.Picture head start

abbrev pub content_by : ℕ → Command → Option OpenContent → Option OpenContent
content_by start FieldData old = Some (contents.Data start)
content_by start (Graphic format sent bytes row) old =
    option_map (picture_behind start) (picture_head format sent bytes row)
content_by start FieldSeparator old = None
content_by start FormatEnd old = None
content_by start command old = drawn_by command old

abbrev pub content : List Item → Option OpenContent
content [] = None
content (item ∷ before) = acting (content_by (length (stored before))) (is_open before) item (content before)

-- all of these
abbrev pub parts_of : List Item → FieldParts
parts_of before = record {
  origin = origin before;
  font = font before;
  symbol = symbol before;
  is_reversed = is_reversed before;
  block = block before;
  content = content before;
}

-- what a command of a format leaves of the parts of a field, behind `start` stored bytes
abbrev pub parts_by : ℕ → Command → FieldParts → FieldParts
parts_by start command old = record {
  origin = origin_by command old.origin;
  font = font_by command old.font;
  symbol = symbol_by command old.symbol;
  is_reversed = is_reversed_by command old.is_reversed;
  block = block_by command old.block;
  content = content_by start command old.content;
}
