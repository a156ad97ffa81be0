-- The text of a content that is closed, or its codes, are bytes that were stored for it.
use Rattle.std.proofs.Common.{◌≤◌, ℕ, ◌-◌, Option, Some, None, Result, Ok, Err, List, length, arith}
use Rattle.vp_dots.specs.declared.fault.Fault.{Fault}
use Rattle.vp_qr_field.specs.declared.front.QrFront.{QrFront}
use Rattle.vp_format.specs.declared.field.Content.{Content}
use Rattle.vp_format.specs.declared.field.Content.TheVariants as contents
use Rattle.vp_format.specs.declared.field.Span.{Span}
use Rattle.vp_format.specs.declared.field.Text.{Text}
use Rattle.vp_label_settings.specs.declared.settings.Settings.{Settings}
use Rattle.vp_label_settings.specs.declared.choice.FieldBlock.{FieldBlock}
use Rattle.vp_label_settings.specs.declared.choice.SymbolChoice.{SymbolChoice}
use Rattle.vp_label_settings.specs.declared.choice.SymbolChoice.TheVariants.{Bars, NotDrawn, Qr, Matrix}
use Rattle.vp_label_settings.specs.declared.parts.OpenContent.{OpenContent}
use Rattle.vp_label_settings.specs.declared.parts.OpenContent.TheVariants as opened
use Rattle.vp_label_settings.specs.declared.parts.FieldParts.{FieldParts}
use Rattle.vp_closing.specs.Contents.{content_of, data_content}
use Rattle.vp_closing.specs.Symbols.{qr_of}
use Rattle.vp_closing.specs.Texts.{text_content}

-- how many bytes its text has, or its codes
abbrev pub data_len : Content → ℕ
data_len (contents.Text t) = t.bytes.len
data_len (contents.Block b) = b.text.bytes.len
data_len (contents.Picture p) = p.codes.len
data_len _ = 0

abbrev pub data_in : Result Content Fault → ℕ
data_in (Ok content) = data_len content
data_in (Err why) = 0

text_few : (t : Text) (b : Option FieldBlock) → data_len (text_content t b) ≤ t.bytes.len
text_few t b = grind arith

qr_few : (bytes : List ℕ) (dots : ℕ) (span : Span) (r : Result QrFront Fault) (n : ℕ) → data_in (qr_of bytes dots span r) ≤ n
qr_few bytes dots span r n = grind arith

data_few : (bytes : List ℕ) (s : Settings) (p : FieldParts) (choice : Option SymbolChoice) (span : Span) → data_in (data_content bytes s p choice span) ≤ span.len
data_few bytes s p None span = text_few _ p.block
data_few bytes s p (Some (Bars b)) span = grind arith
data_few bytes s p (Some NotDrawn) span = omega arith
data_few bytes s p (Some (Qr model dots)) span = qr_few bytes dots span _ span.len
data_few bytes s p (Some (Matrix choice)) span = grind arith

-- where the bytes of a content begin
abbrev pub begin_of : OpenContent → ℕ → ℕ
begin_of (opened.Data start) len = start
begin_of (opened.Frame b colour) len = len
begin_of (opened.Ring r colour) len = len
begin_of (opened.Diagonal d colour) len = len
begin_of (opened.Picture head start) len = start

pub closed_data : (bytes : List ℕ) (s : Settings) (p : FieldParts) (o : OpenContent) → data_in (content_of bytes s p o) ≤ length bytes - begin_of o (length bytes)
closed_data bytes s p o = grind (arith, data_few)
