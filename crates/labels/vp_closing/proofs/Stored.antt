-- Texts in their ranges are stored.
use Rattle.std.proofs.Common.{◌≤◌, ◌+◌, ℕ, Option, None, List, length, arith}
use Rattle.std.specs.Prelude.{◌≤ℤ◌, pos, neg_ℤ}
use Rattle.vp_glyph.specs.Sheets.{Sheets}
use Rattle.vp_zpl.specs.declared.item.LineSpace.{LineSpace}
use Rattle.vp_format.specs.declared.field.Span.{Span}
use Rattle.vp_format.specs.declared.format.TheConstants.{STORED}
use Rattle.vp_field.specs.Contents.{IsStored, IsText}
use Rattle.vp_label_settings.specs.declared.size.CharacterSize.{CharacterSize}
use Rattle.vp_label_settings.specs.declared.choice.FieldBlock.{FieldBlock}
use Rattle.vp_label_settings.specs.Laws.{IsFieldBlockIf, IsSize, IsSpace}
use Rattle.vp_closing.specs.Texts.{gap_of, text_content, text_drawn}

-- what shows no text is drawn from any sheets
pub no_sheets : Sheets
no_sheets = record { a = None; b = None }

gap_low : (space : LineSpace) → IsSpace space → neg_ℤ (pos 9999) ≤ℤ gap_of space
gap_low space fits = grind arith

gap_high : (space : LineSpace) → IsSpace space → gap_of space ≤ℤ pos 9999
gap_high space fits = grind arith

text_fits : (stored : List ℕ) (size : CharacterSize) (bytes : Span) → IsSize size → bytes.start + bytes.len ≤ length stored → length stored ≤ STORED → IsText stored (text_drawn size bytes)
text_fits stored size bytes fits among few = grind arith

pub text_stored : (stored : List ℕ) (size : CharacterSize) (bytes : Span) (block : Option FieldBlock) → IsSize size → IsFieldBlockIf block → bytes.start + bytes.len ≤ length stored → length stored ≤ STORED →
    IsStored stored (text_content (text_drawn size bytes) block)
text_stored stored size bytes block fits block_fits among few = grind arith
