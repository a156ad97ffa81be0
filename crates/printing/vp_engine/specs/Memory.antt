-- What a printer takes of the heap.
use Rattle.std.specs.Prelude.{ℕ}
use Rattle.vp_receipt.specs.Memory.{receipt_memory}
use Rattle.vp_label.specs.Memory.{label_memory}
use Rattle.vp_engine.specs.Machines.{Machine}
use Rattle.vp_engine.specs.Machines.Machine.{Receipt, ReceiptLines, Label, LabelLines}
use Rattle.vp_engine.specs.Setups.{Setup, Receipts, Labels, ListingIn}
use Rattle.vp_engine.specs.Stands.{Engine}

-- the bytes of memory that a printer is made with: a listing takes none
abbrev pub memory_of : Setup → ℕ
memory_of (Receipts by setup) = receipt_memory setup.sheets
memory_of (Labels by sheets) = label_memory sheets
memory_of (ListingIn with_offsets commands) = 0

-- those that a machine holds
abbrev pub machine_memory : Machine → ℕ
machine_memory (Receipt reader receipt) = receipt_memory receipt.sheets
machine_memory (ReceiptLines reader lines) = 0
machine_memory (Label reader label) = label_memory label.sheets
machine_memory (LabelLines reader lines) = 0

-- and a printer
abbrev pub memory_held : Engine → ℕ
memory_held p = machine_memory p.machine
