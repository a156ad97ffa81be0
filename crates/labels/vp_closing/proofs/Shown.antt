-- What a field shows, with its size, and its rows.
use Rattle.std.proofs.Common.{◌≡◌, ℕ, ℤ, List, Result, Ok, arith}
use Rattle.vp_dots.specs.declared.fault.Fault.{Fault}
use Rattle.vp_glyph.specs.Sheets.{Sheets}
use Rattle.vp_zpl.specs.declared.item.Orientation.{Orientation}
use Rattle.vp_format.specs.declared.field.Content.{Content}
use Rattle.vp_field.specs.Contents.{content_width, content_height, orientation_of}
use Rattle.vp_field.specs.Sizes.{sized}
use Rattle.vp_field.specs.Turning.{turned_height}
use Rattle.vp_field.specs.declared.sized.SizedContent.{SizedContent}
use Rattle.vp_format.specs.declared.field.Field.{Field}
use Rattle.vp_dots.specs.declared.Op.{Op}
use Rattle.vp_label_settings.specs.declared.settings.Settings.{Settings}
use Rattle.vp_label_settings.specs.declared.parts.FieldParts.{FieldParts}
use Rattle.vp_closing.specs.Contents.{sized_if}
use Rattle.vp_closing.specs.Closing.{placed}
use Rattle.vp_closing.specs.Positions.{left_of, top_of}

-- a content that comes with its size
pub shown_of : (sheets : Sheets) (stored : List ℕ) (r : Result Content Fault) (s : SizedContent) → sized_if sheets stored r ≡ Ok s
    → (r ≡ Ok s.content) × (s ≡ sized sheets stored s.content)
shown_of sheets stored r s e = grind arith

abbrev pub field : ℤ → ℤ → ℕ → Orientation → Op → Content → Field
field left top rows o op content =
    record { left = left; top = top; rows = rows; orientation = o; op = op; content = content }

-- a content that is turned once is turned
twice : (o : Orientation) (c : Content) → orientation_of (orientation_of o c) c ≡ orientation_of o c
twice o c = grind arith

abbrev rows : Sheets → List ℕ → Orientation → Content → ℕ
rows sheets stored o c = turned_height o (content_width sheets stored c) (content_height sheets stored c)

-- a content that stands turned at its place
pub placed_is : (sheets : Sheets) (stored : List ℕ) (st : Settings) (p : FieldParts) (op paint : Op) (asked o : Orientation) (s : SizedContent) (left top : ℤ) (n : ℕ)
    → o ≡ orientation_of asked s.content → s ≡ sized sheets stored s.content → left ≡ left_of st.home p.origin o s.width s.height → top ≡ top_of st.home p.origin o s.width s.height
    → n ≡ turned_height o s.width s.height → paint ≡ op
    → field left top n o paint s.content ≡ placed sheets stored st p op (orientation_of asked s.content) s.content
placed_is sheets stored st p op paint asked o s left top n turned is l t r same = grind arith

-- the rows of a content that is turned are those of its box
pub rows_kept : (sheets any : Sheets) (stored : List ℕ) (asked o : Orientation) (s : SizedContent) → o ≡ orientation_of asked s.content → s ≡ sized sheets stored s.content
    → turned_height o s.width s.height ≡ rows any stored (orientation_of o s.content) s.content
rows_kept sheets any stored asked o s turned is = grind arith
