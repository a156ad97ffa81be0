-- The items of text: a receipt refuses none of them.
use Rattle.std.proofs.Common.{ℕ, List, [], ◌∷◌, arith}
use Rattle.vp_esc.specs.declared.reading.Reading.{Reading as EscReading}
use Rattle.vp_esc.specs.declared.item.EscItem.{EscItem}
use Rattle.vp_esc.specs.Units.{single_item}
use Rattle.vp_esc.specs.Reader.{text_items}
use Rattle.vp_receipt_settings.specs.Setup.{Setup as ReceiptSetup}
use Rattle.vp_engine.specs.Setups.{Receipts, rules_of}
use Rattle.vp_engine.specs.Takes.{AreAccepted}

pub accepted_text : (by : EscReading) (setup : ReceiptSetup) (xs : List ℕ) (before : List EscItem) → AreAccepted (rules_of (Receipts by setup)) before (text_items xs)
accepted_text by setup [] before = tt
accepted_text by setup (b ∷ xs) before = grind (arith, accepted_text by setup xs (single_item b ∷ before))
