-- The items of a raster's bytes, and of those that are stored: what a receipt and a listing do with them.
use Rattle.std.proofs.Common.{◌≡◌, ℕ, List, [], ◌∷◌, ◌++◌, reverse, append_assoc, flat_map, take, ◌<◌, None, arith, refl, sym, ap, ◌∙◌}
use Rattle.std.proofs.lemmas.List.{reverse-append, append-nil}
use Rattle.vp_esc.specs.declared.reading.Reading.{Reading as EscReading}
use Rattle.vp_esc.specs.declared.item.EscItem.{EscItem}
use Rattle.vp_esc.specs.declared.item.EscItem.TheVariants.{RasterByte, QrByte}
use Rattle.vp_esc.specs.Split.{fault_of}
use Rattle.vp_esc.specs.Reader.{raster_items, stored_items}
use Rattle.vp_receipt_settings.specs.Setup.{Setup as ReceiptSetup}
use Rattle.vp_receipt.specs.Strips.{prints, printed as printed_receipt}
use Rattle.vp_engine.specs.Paper.{Reading, listing, printed}
use Rattle.vp_engine.specs.Setups.{rules_of}
use Rattle.vp_engine.specs.Setups.{Receipts}
use Rattle.vp_engine.specs.Takes.{AreAccepted}

-- where a run of none or more bytes is known at its end
pub known_run : (by : EscReading) (t ys run : List ℕ) (n : ℕ) → take n ys ≡ run → fault_of by t ≡ None → (0 < n → fault_of by (t ++ take n ys) ≡ None) → fault_of by (t ++ run) ≡ None
known_run by t ys run n e none later = grind (arith, append-nil)

-- a byte of a raster, and one that is stored, is not refused
pub accepted_bytes : (by : EscReading) (setup : ReceiptSetup) (xs : List ℕ) (before : List EscItem) → AreAccepted (rules_of (Receipts by setup)) before (raster_items xs)
accepted_bytes by setup [] before = tt
accepted_bytes by setup (b ∷ xs) before = (refl, accepted_bytes by setup xs (RasterByte b ∷ before))

pub accepted_stored : (by : EscReading) (setup : ReceiptSetup) (xs : List ℕ) (before : List EscItem) → AreAccepted (rules_of (Receipts by setup)) before (stored_items xs)
accepted_stored by setup [] before = tt
accepted_stored by setup (b ∷ xs) before = (refl, accepted_stored by setup xs (QrByte b ∷ before))

pub printed_same : (by : EscReading) (setup : ReceiptSetup) (h : List EscItem) → printed (rules_of (Receipts by setup)) h ≡ printed_receipt setup h
printed_same by setup [] = refl
printed_same by setup (i ∷ h) = ap (λ x. x ++ prints setup h i) (printed_same by setup h)

-- nothing is refused in a listing
pub all_listed : {Item : Type 0} (reading : Reading Item) (line : Item → List ℕ) (added before : List Item) → AreAccepted (listing reading line) before added
all_listed reading line [] before = tt
all_listed reading line (i ∷ added) before = (refl, all_listed reading line added (i ∷ before))

-- and each item prints its line
pub printed_lines : {Item : Type 0} (reading : Reading Item) (line : Item → List ℕ) (added before : List Item) →
    printed (listing reading line) (reverse added ++ before) ≡ printed (listing reading line) before ++ flat_map line added
printed_lines reading line [] before = sym (append-nil (printed (listing reading line) before))
printed_lines reading line (i ∷ added) before =
    ap (printed (listing reading line)) (ap (λ x. x ++ before) (reverse-append (i ∷ []) added) ∙ append_assoc (reverse added) (i ∷ []) before)
    ∙ printed_lines reading line added (i ∷ before) ∙ append_assoc (printed (listing reading line) before) (line i) (flat_map line added)
