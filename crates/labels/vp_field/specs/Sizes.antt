-- Contents with their sizes.
use Rattle.std.specs.Prelude.{ℕ, List}
use Rattle.vp_glyph.specs.Sheets.{Sheets}
use Rattle.vp_format.specs.declared.field.Content.{Content}
use Rattle.vp_field.specs.Contents.{content_width, content_height}
use Rattle.vp_field.specs.declared.sized.SizedContent.{SizedContent}

-- a content with the size that it has as it is read
abbrev pub sized : Sheets → List ℕ → Content → SizedContent
sized sheets stored content = record {
  content = content;
  width = content_width sheets stored content;
  height = content_height sheets stored content;
}
