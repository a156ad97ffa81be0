-- The images of receipts and of labels.
use Rattle.std.specs.Prelude.{◌≡◌, ℕ, List, None}
use Rattle.vp_dots.specs.Images.{Image}
use Rattle.vp_glyph.specs.Sheets.{Sheets}
use Rattle.vp_esc.specs.declared.reading.Reading.{Reading as EscReading}
use Rattle.vp_esc.specs.declared.item.EscItem.{EscItem}
use Rattle.vp_receipt_settings.specs.Setup.{Setup as ReceiptSetup}
use Rattle.vp_receipt.specs.Images.{images, begun}
use Rattle.vp_zpl.specs.declared.reading.Reading.{Reading as ZplReading}
use Rattle.vp_zpl.specs.Items.{Item}
use Rattle.vp_label.specs.Images as label
use Rattle.vp_engine.specs.Paper.{Rules, history, before_fault, fault_at_end}
use Rattle.vp_engine.specs.Setups.{Receipts, Labels, rules_of}

-- the rules of receipts by these commands on a paper with sheets
abbrev pub receipts : EscReading → ReceiptSetup → Rules EscItem
receipts by setup = rules_of (Receipts by setup)

-- the bytes have no fault, and all is printed where they end
abbrev pub IsPrinted : EscReading → ReceiptSetup → List ℕ → Type 0
IsPrinted by setup bytes = fault_at_end (receipts by setup) bytes ≡ None

-- the images of the bytes before the first fault, from the top
abbrev pub images_of : EscReading → ReceiptSetup → List ℕ → List Image
images_of by setup bytes =
    images setup (history (receipts by setup) (before_fault (receipts by setup) bytes))

-- what has come of a raster that rows are to come of: its header, and rows
abbrev pub begun_of : EscReading → ReceiptSetup → List ℕ → List ℕ
begun_of by setup bytes = begun setup (history (receipts by setup) (before_fault (receipts by setup) bytes))

-- the rules of labels by these commands with sheets
abbrev pub labels : ZplReading → Sheets → Rules Item
labels by sheets = rules_of (Labels by sheets)

-- the images of the bytes before the first fault, one after the other
abbrev pub images_of_labels : ZplReading → Sheets → List ℕ → List Image
images_of_labels by sheets bytes =
    label.images sheets (history (labels by sheets) (before_fault (labels by sheets) bytes))
