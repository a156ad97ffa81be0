-- Which setup a machine is for: it stands nowhere by another.
use Rattle.std.proofs.Common.{◌≡◌, ℕ, Bool, List, subst}
use Rattle.vp_esc.specs.declared.reading.Reading.{Reading as EscReading}
use Rattle.vp_esc.specs.declared.reader.EscReader.{EscReader}
use Rattle.vp_esc.specs.Reader.{Stands as EscStands}
use Rattle.vp_glyph.specs.Sheets.{Sheets}
use Rattle.vp_receipt_settings.specs.Setup.{Setup as ReceiptSetup}
use Rattle.vp_receipt.specs.Standing.{Printing, Stands as ReceiptStands}
use Rattle.vp_zpl.specs.declared.reading.Reading.{Reading as ZplReading}
use Rattle.vp_zpl.specs.declared.reader.ZplReader.{ZplReader}
use Rattle.vp_zpl.specs.Reader.{Stands as ZplStands}
use Rattle.vp_label.specs.Standing.{Printing as LabelPrinting, Stands as LabelStands}
use Rattle.vp_engine.specs.declared.machine.Machine.{Machine as MachineOver}
use Rattle.vp_engine.specs.declared.machine.Machine.TheVariants as over
use Rattle.vp_engine.specs.Lines.{Listed}
use Rattle.vp_engine.specs.Machines.{machine_of, plain, MachineStands, AreLines}
use Rattle.vp_engine.specs.Machines.Machine.{Receipt, ReceiptLines, Label, LabelLines}
use Rattle.vp_engine.specs.Setups.{EscPos, Zpl}
use Rattle.vp_engine.specs.Setups.{Setup, Receipts, Labels, ListingIn, Item}
use Rattle.vp_engine.proofs.Plain.{from_plain}

module _ (P : (setup : Setup) → List ℕ → List (Item setup) → Type 0) where
  by_receipt : (reader : EscReader) (receipt : Printing) →
      ((by : EscReading) (s : ReceiptSetup) (t : List ℕ) (before : List (Item (Receipts by s))) → EscStands by reader t × ReceiptStands s receipt before → P (Receipts by s) t before) →
      (setup : Setup) (t : List ℕ) (before : List (Item setup)) → MachineStands (Receipt reader receipt) setup t before → P setup t before
  by_receipt reader receipt f (Receipts by s) t before at = f by s t before at
  by_receipt reader receipt f setup t before at = absurd at

  pub at_receipt : {A : Type 0} (machine : MachineOver A) (reader : EscReader) (receipt : Printing) → machine ≡ over.Receipt reader receipt →
      ((by : EscReading) (s : ReceiptSetup) (t : List ℕ) (before : List (Item (Receipts by s))) → EscStands by reader t × ReceiptStands s receipt before → P (Receipts by s) t before) →
      (setup : Setup) (t : List ℕ) (before : List (Item setup)) → MachineStands (machine_of machine) setup t before → P setup t before
  at_receipt machine reader receipt is f setup t before at = by_receipt reader receipt f setup t before (subst (λ m. MachineStands (machine_of m) setup t before) is at)

  by_lines : (reader : EscReader) (lines : Listed) →
      ((by : EscReading) (w : Bool) (t : List ℕ) (before : List (Item (ListingIn w (EscPos by)))) → EscStands by reader t × AreLines w lines t before → P (ListingIn w (EscPos by)) t before) →
      (setup : Setup) (t : List ℕ) (before : List (Item setup)) → MachineStands (ReceiptLines reader lines) setup t before → P setup t before
  by_lines reader lines f (ListingIn w (EscPos by)) t before at = f by w t before at
  by_lines reader lines f setup t before at = absurd at

  pub at_lines : {A : Type 0} (machine : MachineOver A) (reader : EscReader) (lines : Listed) → machine ≡ over.ReceiptLines reader lines →
      ((by : EscReading) (w : Bool) (t : List ℕ) (before : List (Item (ListingIn w (EscPos by)))) → EscStands by reader t × AreLines w lines t before → P (ListingIn w (EscPos by)) t before) →
      (setup : Setup) (t : List ℕ) (before : List (Item setup)) → MachineStands (machine_of machine) setup t before → P setup t before
  at_lines machine reader lines is f setup t before at = by_lines reader lines f setup t before (subst (λ m. MachineStands (machine_of m) setup t before) is at)

  by_label : (reader : ZplReader) (label : LabelPrinting (Unit {0})) →
      ((by : ZplReading) (s : Sheets) (t : List ℕ) (before : List (Item (Labels by s))) → ZplStands by reader t × LabelStands s label before → P (Labels by s) t before) →
      (setup : Setup) (t : List ℕ) (before : List (Item setup)) → MachineStands (Label reader label) setup t before → P setup t before
  by_label reader label f (Labels by s) t before at = f by s t before at
  by_label reader label f setup t before at = absurd at

  pub at_label : {A : Type 0} (machine : MachineOver A) (reader : ZplReader) (label : LabelPrinting A) → machine ≡ over.Label reader label →
      ((by : ZplReading) (s : Sheets) (t : List ℕ) (before : List (Item (Labels by s))) → ZplStands by reader t × LabelStands s label before → P (Labels by s) t before) →
      (setup : Setup) (t : List ℕ) (before : List (Item setup)) → MachineStands (machine_of machine) setup t before → P setup t before
  at_label machine reader label is f setup t before at = by_label reader (plain label) (λ by s t before stands. f by s t before (stands.0, from_plain s label before stands.1)) setup t before (subst (λ m. MachineStands (machine_of m) setup t before) is at)

  by_label_lines : (reader : ZplReader) (lines : Listed) →
      ((by : ZplReading) (w : Bool) (t : List ℕ) (before : List (Item (ListingIn w (Zpl by)))) → ZplStands by reader t × AreLines w lines t before → P (ListingIn w (Zpl by)) t before) →
      (setup : Setup) (t : List ℕ) (before : List (Item setup)) → MachineStands (LabelLines reader lines) setup t before → P setup t before
  by_label_lines reader lines f (ListingIn w (Zpl by)) t before at = f by w t before at
  by_label_lines reader lines f setup t before at = absurd at

  pub at_label_lines : {A : Type 0} (machine : MachineOver A) (reader : ZplReader) (lines : Listed) → machine ≡ over.LabelLines reader lines →
      ((by : ZplReading) (w : Bool) (t : List ℕ) (before : List (Item (ListingIn w (Zpl by)))) → ZplStands by reader t × AreLines w lines t before → P (ListingIn w (Zpl by)) t before) →
      (setup : Setup) (t : List ℕ) (before : List (Item setup)) → MachineStands (machine_of machine) setup t before → P setup t before
  at_label_lines machine reader lines is f setup t before at = by_label_lines reader lines f setup t before (subst (λ m. MachineStands (machine_of m) setup t before) is at)
