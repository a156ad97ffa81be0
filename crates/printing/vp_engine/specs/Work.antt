-- What a printer tells of its work.
use Rattle.std.specs.Prelude.{◌≡◌, ◌≤◌, ℕ, ◌+◌, min, List, []}
use Rattle.vp_page.specs.Work.{MOST}
use Rattle.vp_label.specs.Work.{most_work as most_painting, least_work as least_painting}
use Rattle.vp_receipt.specs.Work.{most_work, least_work}
use Rattle.vp_receipt_settings.specs.Line.{mode}
use Rattle.vp_receipt_settings.specs.declared.page_mode.PrinterMode.TheVariants.{Page}
use Rattle.vp_engine.specs.Machines.{Machine}
use Rattle.vp_engine.specs.Machines.Machine.{Receipt, ReceiptLines, Label, LabelLines}
use Rattle.vp_engine.specs.Setups.{Setup, Receipts, Labels, ListingIn, Item}
use Rattle.vp_engine.specs.Stands.{Engine}

-- the work of a machine: the rows of dots that were laid on a receipt's page and made white, and what
-- painting took for a label's copy; a listing has none
abbrev pub machine_work : Machine → ℕ
machine_work (Receipt reader receipt) = min (receipt.page.laid + receipt.page.wiped) MOST
machine_work (ReceiptLines reader lines) = 0
machine_work (Label reader label) = label.press.painter.work
machine_work (LabelLines reader lines) = 0

-- and of a printer
abbrev pub work_told : Engine → ℕ
work_told p = machine_work p.machine

-- on a receipt's page the work after these items is at least what is seen of it, and at most that of what
-- was laid and wiped. Of a label it is at most that of a copy of the one that was printed last, and at least
-- that of what is seen of it, once all is put out
abbrev pub IsWorkAfter : (setup : Setup) → List (Item setup) → List ℕ → ℕ → Type 0
IsWorkAfter (Receipts by receipt) before pending work =
    mode receipt before ≡ Page →
    (min (least_work receipt before) MOST ≤ work) × (work ≤ most_work receipt before)
IsWorkAfter (Labels by sheets) before pending work =
    (work ≤ most_painting sheets before) × (pending ≡ [] → least_painting sheets before ≤ work)
IsWorkAfter (ListingIn with_offsets commands) before pending work = work ≡ 0
