-- Texts and their blocks as the format keeps them (ZPL II, ^A and ^FB).
use Rattle.std.specs.Prelude.{ℤ, pos, neg_ℤ, Option, Some, None, unwrap_or}
use Rattle.vp_zpl.specs.declared.item.Orientation.{Orientation}
use Rattle.vp_zpl.specs.declared.item.LineSpace.{LineSpace}
use Rattle.vp_zpl.specs.declared.item.LineSpace.TheVariants.{Added, Deleted}
use Rattle.vp_format.specs.declared.field.Span.{Span}
use Rattle.vp_format.specs.declared.field.Text.{Text}
use Rattle.vp_format.specs.declared.field.TextBlock.{TextBlock}
use Rattle.vp_format.specs.declared.field.Content.{Content}
use Rattle.vp_format.specs.declared.field.Content.TheVariants as contents
use Rattle.vp_label_settings.specs.declared.size.CharacterSize.{CharacterSize}
use Rattle.vp_label_settings.specs.declared.choice.FontChoice.{FontChoice}
use Rattle.vp_label_settings.specs.declared.choice.FieldBlock.{FieldBlock}
use Rattle.vp_label_settings.specs.declared.settings.Settings.{Settings}
use Rattle.vp_label_settings.specs.Ranges.{size_given}

-- ^A, or ^FW and ^CF where that isn't said
abbrev pub text_orientation : Settings → Option FontChoice → Orientation
text_orientation s None = s.field_orientation
text_orientation s (Some font) = unwrap_or font.orientation s.field_orientation

abbrev pub text_size : Settings → Option FontChoice → CharacterSize
text_size s None = s.default_font
text_size s (Some font) = size_given font.height font.width s.default_font

-- a text in one line
abbrev pub text_drawn : CharacterSize → Span → Text
text_drawn size bytes = record { bytes = bytes; width = size.width; height = size.height }

-- ^FB: the dots between its lines; deleted ones bring them nearer
abbrev pub gap_of : LineSpace → ℤ
gap_of (Added dots) = pos dots
gap_of (Deleted dots) = neg_ℤ (pos dots)

abbrev pub text_block : Text → FieldBlock → TextBlock
text_block text b = record {
  text = text;
  width = b.width;
  lines = b.lines;
  gap = gap_of b.space;
  alignment = b.alignment;
}

-- a text, in a block where ^FB asks for one
abbrev pub text_content : Text → Option FieldBlock → Content
text_content text None = contents.Text text
text_content text (Some b) = contents.Block (text_block text b)
