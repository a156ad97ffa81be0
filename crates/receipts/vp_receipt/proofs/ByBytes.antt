-- What bytes lay on pages and wipe there at most.
use Rattle.std.proofs.Common.{◌≤◌, ◌+◌, ◌*◌, List, [], ◌∷◌, ◌++◌, length, arith, lit≤}
use Rattle.vp_esc.specs.declared.item.EscItem.{EscItem}
use Rattle.vp_page.specs.declared.page.TheConstants.{PAGE_ROWS, PAPER_DOTS}
use Rattle.vp_receipt_settings.specs.declared.text.TheConstants.{LINE_ROWS}
use Rattle.vp_receipt_settings.specs.Setup.{Setup}
use Rattle.vp_receipt.specs.Work.{most_work, most_in_all, ended_counts}
use Rattle.vp_receipt.proofs.Costs.{costs_at_most}

-- more items, the newest first
pub items_take : (setup : Setup) (more before : List EscItem) → most_in_all setup (more ++ before) ≤ most_in_all setup before + (LINE_ROWS + PAGE_ROWS + PAPER_DOTS) * length more
items_take setup [] before = omega arith
items_take setup (item ∷ more) before = grind (arith, costs_at_most, items_take setup more before)

-- What was counted.

pub counts : (setup : Setup) (before : List EscItem) → ended_counts setup before + most_work setup before ≤ PAGE_ROWS + PAPER_DOTS + most_in_all setup before
counts setup [] = lit≤ tt
counts setup (item ∷ before) = grind (arith, counts setup before)
