-- The languages, and what each printer is set up with.
use Rattle.std.specs.Prelude.{ℕ, Bool, true, false, List, [], ◌∷◌, length, None}
use Rattle.vp_esc.specs.declared.reading.Reading.{Reading as EscReading}
use Rattle.vp_esc.specs.declared.reading.Reading.TheVariants as esc_by
use Rattle.vp_esc.specs.declared.item.EscItem.{EscItem}
use Rattle.vp_esc.specs.Split.{split, items, fault_of}
use Rattle.vp_esc.specs.Lines.{line_of}
use Rattle.vp_glyph.specs.Sheets.{Sheets}
use Rattle.vp_receipt_settings.specs.declared.width.Width.TheVariants.{W576, W384}
use Rattle.vp_receipt_settings.specs.Setup.{Setup as ReceiptSetup}
use Rattle.vp_receipt.specs.Strips.{prints, refusal, is_at_rest, line_rows_after, page_rows_after}
use Rattle.vp_zpl.specs.declared.reading.Reading.{Reading as ZplReading}
use Rattle.vp_zpl.specs.declared.reading.Reading.TheVariants as zpl_by
use Rattle.vp_zpl.specs.Items as zpl
use Rattle.vp_zpl.specs.Lines as zpl_lines
use Rattle.vp_label.specs.Prints as label
use Rattle.vp_label.specs.Refusals as label_refusals
use Rattle.vp_label.specs.Held.{band_rows_after, stored_after, fields_after}
use Rattle.vp_language.specs.declared.language.Language.{Language}
use Rattle.vp_language.specs.declared.language.Language.TheVariants as languages
use Rattle.vp_streams.specs.Count.{counted}
use Rattle.vp_engine.specs.Offsets.{ListedItem, listed_by, line_by}
use Rattle.vp_engine.specs.Paper.{Reading, Rules, listing, nothing_held}

-- what a stream's bytes are, whatever they are printed on
pub data Commands : Type 0 where
  EscPos : EscReading → Commands
  Zpl : ZplReading → Commands

abbrev pub commands_of : Language → Commands
commands_of languages.Receipt = EscPos esc_by.Profile
commands_of languages.Receipt58 = EscPos esc_by.Profile
commands_of languages.WholeReceipt = EscPos esc_by.Whole
commands_of languages.WholeReceipt58 = EscPos esc_by.Whole
commands_of languages.Label = Zpl zpl_by.Profile
commands_of languages.WholeLabel = Zpl zpl_by.Whole

abbrev pub ItemIn : Commands → Type 0
ItemIn (EscPos by) = EscItem
ItemIn (Zpl by) = zpl.Item

abbrev pub ItemOf : Language → Type 0
ItemOf language = ItemIn (commands_of language)

abbrev pub is_empty : List ℕ → Bool
is_empty [] = true
is_empty (b ∷ bytes) = false

abbrev pub esc_reading : EscReading → Reading EscItem
esc_reading by = record {
  items = items by;
  fault_of = fault_of by;
  is_between = λ bytes. is_empty (split by bytes).rest;
}

-- every command of labels is known, or skipped
abbrev pub zpl_reading : ZplReading → Reading zpl.Item
zpl_reading by = record { items = zpl.items by; fault_of = λ bytes. None; is_between = zpl.at_rest by }

-- what the bytes say
abbrev pub reading_in : (commands : Commands) → Reading (ItemIn commands)
reading_in (EscPos by) = esc_reading by
reading_in (Zpl by) = zpl_reading by

abbrev pub reading : (language : Language) → Reading (ItemOf language)
reading language = reading_in (commands_of language)

-- an item's line of a listing
abbrev pub line_in : (commands : Commands) → ItemIn commands → List ℕ
line_in (EscPos by) = line_of
line_in (Zpl by) = zpl_lines.line_of

abbrev pub line : (language : Language) → ItemOf language → List ℕ
line language = line_in (commands_of language)

-- what a printer prints: receipts by these commands on a paper with sheets, labels by these with sheets, or a
-- line for each item, which needs no paper, with its place or without
pub data Setup : Type 0 where
  Receipts : EscReading → ReceiptSetup → Setup
  Labels : ZplReading → Sheets → Setup
  ListingIn : (with_offsets : Bool) → Commands → Setup

-- the listing of a language, whatever its paper
abbrev pub Listing : Language → Setup
Listing language = ListingIn false (commands_of language)

abbrev pub ListingWithOffsets : Language → Setup
ListingWithOffsets language = ListingIn true (commands_of language)

-- the printer of a language with these sheets
abbrev pub setup_of : Language → Sheets → Setup
setup_of languages.Receipt sheets = Receipts esc_by.Profile (record { width = W576; sheets = sheets })
setup_of languages.Receipt58 sheets = Receipts esc_by.Profile (record { width = W384; sheets = sheets })
setup_of languages.WholeReceipt sheets = Receipts esc_by.Whole (record { width = W576; sheets = sheets })
setup_of languages.WholeReceipt58 sheets = Receipts esc_by.Whole (record { width = W384; sheets = sheets })
setup_of languages.Label sheets = Labels zpl_by.Profile sheets
setup_of languages.WholeLabel sheets = Labels zpl_by.Whole sheets

abbrev pub Item : Setup → Type 0
Item (Receipts by receipt) = EscItem
Item (Labels by sheets) = zpl.Item
Item (ListingIn with_offsets commands) = ListedItem with_offsets (ItemIn commands)

abbrev pub rules_of : (setup : Setup) → Rules (Item setup)
rules_of (Receipts by receipt) = record {
  reading = esc_reading by;
  prints = prints receipt;
  refusal = refusal receipt;
  is_at_rest = is_at_rest receipt;
  held = λ before pending. record nothing_held {
    line_rows = line_rows_after receipt before pending;
    page_rows = page_rows_after receipt before pending;
  };
}
rules_of (Labels by sheets) = record {
  reading = zpl_reading by;
  prints = label.prints sheets;
  refusal = label_refusals.refusal sheets;
  is_at_rest = label.is_at_rest;
  held = λ before pending. record nothing_held {
    band_rows = band_rows_after sheets before pending;
    stored = stored_after before pending;
    fields = fields_after sheets before pending;
  };
}
rules_of (ListingIn with_offsets commands) =
    listing (listed_by with_offsets (reading_in commands)) (line_by with_offsets (line_in commands))

-- how many lines of a listing these items are
abbrev pub lines_of : (setup : Setup) → List (Item setup) → ℕ
lines_of (Receipts by receipt) before = 0
lines_of (Labels by sheets) before = 0
lines_of (ListingIn with_offsets commands) before = counted (length before)
