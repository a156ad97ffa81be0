-- The machines by cases: each a reader and what it drives.
use Rattle.std.specs.Prelude.{◌≡◌, ℕ, Bool, List, [], length}
use Rattle.vp_esc.specs.declared.reader.EscReader.{EscReader}
use Rattle.vp_esc.specs.Reader.{Stands as EscStands}
use Rattle.vp_receipt.specs.Standing.{Printing as ReceiptPrinting, Stands as ReceiptStands}
use Rattle.vp_zpl.specs.declared.reader.ZplReader.{ZplReader}
use Rattle.vp_zpl.specs.Reader.{Stands as ZplStands}
use Rattle.vp_label.specs.Standing.{Printing as LabelPrinting, Stands as LabelStands}
use Rattle.vp_engine.specs.declared.machine.Machine.{Machine as MachineOver}
use Rattle.vp_engine.specs.declared.machine.Machine.TheVariants as over
use Rattle.vp_streams.specs.Count.{counted}
use Rattle.vp_engine.specs.Lines.{Listed, taken_of}
use Rattle.vp_engine.specs.Setups.{EscPos, Zpl}
use Rattle.vp_engine.specs.Setups.{Setup, Receipts, Labels, ListingIn, Item}

-- a machine, whatever allocator its memory is from
pub data Machine : Type 0 where
  Receipt : EscReader → ReceiptPrinting → Machine
  ReceiptLines : EscReader → Listed → Machine
  Label : ZplReader → LabelPrinting (Unit {0}) → Machine
  LabelLines : ZplReader → Listed → Machine

-- what a label printer holds, whatever allocator its memory is from
abbrev pub plain : {A : Type 0} → LabelPrinting A → LabelPrinting (Unit {0})
plain p = record {
  sheets = p.sheets;
  gathered = record {
    in_force = p.gathered.in_force;
    format = record { fields = p.gathered.format.fields; stored = p.gathered.format.stored };
    made = p.gathered.made;
  };
  press = record { copies = p.press.copies; painter = p.press.painter; band = p.press.band };
  pending = p.pending;
}

abbrev pub machine_of : {A : Type 0} → MachineOver A → Machine
machine_of (over.Receipt reader receipt) = Receipt reader receipt
machine_of (over.ReceiptLines reader lines) = ReceiptLines reader lines
machine_of (over.Label reader label) = Label reader (plain label)
machine_of (over.LabelLines reader lines) = LabelLines reader lines

-- what is still to be put out
abbrev pub pending_of : Machine → List ℕ
pending_of (Receipt reader receipt) = receipt.pending
pending_of (ReceiptLines reader lines) = lines.pending
pending_of (Label reader label) = label.pending
pending_of (LabelLines reader lines) = lines.pending

-- there were as many lines as items, behind their places or without
pub record AreLines (with_offsets : Bool) {Item : Type 0} (lines : Listed) (bytes : List ℕ)
    (before : List Item) : Type 0 where
  pub count : lines.count ≡ counted (length before)
  pub taken : lines.taken ≡ taken_of with_offsets bytes

-- the reader stands after these bytes, and what it drives after these items
abbrev pub MachineStands : Machine → (setup : Setup) → List ℕ → List (Item setup) → Type 0
MachineStands (Receipt reader receipt) (Receipts by setup) bytes before =
    EscStands by reader bytes × ReceiptStands setup receipt before
MachineStands (ReceiptLines reader lines) (ListingIn with_offsets (EscPos by)) bytes before =
    EscStands by reader bytes × AreLines with_offsets lines bytes before
MachineStands (Label reader label) (Labels by sheets) bytes before =
    ZplStands by reader bytes × LabelStands sheets label before
MachineStands (LabelLines reader lines) (ListingIn with_offsets (Zpl by)) bytes before =
    ZplStands by reader bytes × AreLines with_offsets lines bytes before
MachineStands machine setup bytes before = ⊥

-- A machine took nothing.
abbrev pub TookNothing : Machine → Type 0
TookNothing machine = (setup : Setup) × MachineStands machine setup [] [] × (pending_of machine ≡ [])
