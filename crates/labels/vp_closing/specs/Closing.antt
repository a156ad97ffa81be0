-- Closing a field: what its parts leave out is taken as the settings stand when it is closed.
use Rattle.std.specs.Prelude.{ℕ, ◌||◌, List, Option, Some, None, unwrap_or, option_map, Result, Ok, Err, if◌then◌else◌}
use Rattle.vp_dots.specs.declared.fault.Fault.{Fault}
use Rattle.vp_dots.specs.declared.Op.{Op}
use Rattle.vp_dots.specs.declared.Op.TheVariants as paints
use Rattle.vp_zpl.specs.declared.item.Orientation.{Orientation}
use Rattle.vp_zpl.specs.declared.item.Colour.{Colour}
use Rattle.vp_zpl.specs.declared.item.Colour.TheVariants.{Black, White}
use Rattle.vp_glyph.specs.Sheets.{Sheets}
use Rattle.vp_format.specs.declared.field.Content.{Content}
use Rattle.vp_format.specs.declared.field.Field.{Field}
use Rattle.vp_format.specs.Formats.{Held}
use Rattle.vp_field.specs.Contents.{content_width, content_height, orientation_of}
use Rattle.vp_field.specs.Turning.{turned_height}
use Rattle.vp_label_settings.specs.declared.settings.Settings.{Settings}
use Rattle.vp_label_settings.specs.declared.choice.SymbolChoice.{SymbolChoice}
use Rattle.vp_label_settings.specs.declared.choice.SymbolChoice.TheVariants.{Bars, Matrix}
use Rattle.vp_label_settings.specs.declared.parts.OpenContent.{OpenContent}
use Rattle.vp_label_settings.specs.declared.parts.OpenContent.TheVariants.{Data, Frame, Ring, Diagonal, Picture}
use Rattle.vp_label_settings.specs.declared.parts.FieldParts.{FieldParts}
use Rattle.vp_closing.specs.Positions.{left_of, top_of}
use Rattle.vp_closing.specs.Texts.{text_orientation}
use Rattle.vp_closing.specs.Contents.{content_of}

-- how a field is turned, if its content is one that is: ^A or its symbol says it, or else ^FW
abbrev pub asked_orientation : Settings → FieldParts → Option SymbolChoice → Orientation
asked_orientation s p None = text_orientation s p.font
asked_orientation s p (Some (Bars b)) = unwrap_or b.orientation s.field_orientation
asked_orientation s p (Some (Matrix choice)) = unwrap_or choice.orientation s.field_orientation
asked_orientation s p (Some _) = s.field_orientation

-- the lines of ^GB, ^GC, ^GE and ^GD are black or white, all else is black
abbrev pub paint_of : Colour → Op
paint_of Black = paints.Black
paint_of White = paints.White

abbrev pub colour_of : OpenContent → Op
colour_of (Frame b colour) = paint_of colour
colour_of (Ring r colour) = paint_of colour
colour_of (Diagonal d colour) = paint_of colour
colour_of (Data start) = paints.Black
colour_of (Picture head start) = paints.Black

-- ^FR and ^LR reverse whatever the colour
abbrev pub operation : Settings → FieldParts → Op → Op
operation s p colour = if p.is_reversed || s.label_reverse then paints.Flip else colour

-- a content that stands turned at its place, with the size that it has as it is read
abbrev pub placed : Sheets → List ℕ → Settings → FieldParts → Op → Orientation → Content → Field
placed sheets stored s p op o content = record {
  left = left_of s.home p.origin o (content_width sheets stored content)
      (content_height sheets stored content);
  top = top_of s.home p.origin o (content_width sheets stored content)
      (content_height sheets stored content);
  rows = turned_height o (content_width sheets stored content) (content_height sheets stored content);
  orientation = o;
  op = op;
  content = content;
}

-- a field with its content, unless that is refused
abbrev pub field_with : Sheets → List ℕ → Settings → FieldParts → Op → Result Content Fault →
    Result Field Fault
field_with sheets stored s p op (Err why) = Err why
field_with sheets stored s p op (Ok content) =
    Ok (placed sheets stored s p op (orientation_of (asked_orientation s p p.symbol) content) content)

abbrev pub field_of : Sheets → List ℕ → Settings → FieldParts → OpenContent → Result Field Fault
field_of sheets stored s p content =
    field_with sheets stored s p (operation s p (colour_of content)) (content_of stored s p content)

-- the field that is closed in a format, if there is a content: as the format keeps it, or why it is refused
abbrev pub closed : Sheets → Held → Settings → FieldParts → Option (Result Field Fault)
closed sheets format s p = option_map (field_of sheets format.stored s p) p.content
