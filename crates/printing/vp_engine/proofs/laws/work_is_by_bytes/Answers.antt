use Rattle.std.proofs.Common.{◌≡◌, ◌≤◌, ℕ, ◌+◌, ◌*◌, List, [], ◌∷◌, ◌++◌, length, reverse, is_some, ap, arith}
use Rattle.std.proofs.lemmas.List.{length_push}
use Rattle.vp_esc.specs.declared.reading.Reading.{Reading as EscReading}
use Rattle.vp_esc.specs.declared.item.EscItem.{EscItem}
use Rattle.vp_esc.specs.Split.{items}
use Rattle.vp_page.specs.declared.page.TheConstants.{PAGE_ROWS, PAPER_DOTS}
use Rattle.vp_receipt_settings.specs.declared.text.TheConstants.{LINE_ROWS}
use Rattle.vp_receipt_settings.specs.Setup.{Setup as ReceiptSetup}
use Rattle.vp_receipt.specs.Work.{BytesCostAtMost, most_in_all, most_work}
use Rattle.vp_engine.specs.Images.{receipts, labels}
use Rattle.vp_engine.specs.Paper.{Rules, before_fault, sound}
use Rattle.vp_engine.specs.Setups.{Receipts}
use Rattle.vp_engine.proofs.laws.work_is_by_bytes.Goals as goal

module _ {Item : Type 0} (rules : Rules Item) where
  sound_few : (front rest : List ℕ) → length (sound rules front rest) ≤ length front + length rest
  unfolding sound
  sound_few front [] = omega arith
  sound_few front (b ∷ rest) = grind (arith, is_some, length_push, sound_few (front ++ b ∷ []) rest)

  before_few : (bytes : List ℕ) → length (before_fault rules bytes) ≤ length bytes
  unfolding before_fault
  before_few bytes = let few = sound_few [] bytes in omega (arith, few)

-- from the first byte on
from_first : (law : BytesCostAtMost) (by : EscReading) (setup : ReceiptSetup) (bytes : List ℕ) (n : ℕ) → items by [] ≡ [] → length bytes ≤ n
    → most_work setup (reverse (items by bytes)) ≤ PAGE_ROWS + PAPER_DOTS + (LINE_ROWS + PAGE_ROWS + PAPER_DOTS) * n
from_first law by setup bytes n none few =
    let start : most_in_all setup (reverse (items by [])) ≡ 0 = ap (λ (xs : List EscItem). most_in_all setup (reverse xs)) none in
    let all = law.bytes by setup [] bytes in let told = law.counted setup (reverse (items by bytes)) in
    omega (arith, start, all, told, few)

pub returns-clause-receipts : goal.returns-clause-receipts
returns-clause-receipts c = λ by setup bytes.
    from_first c.bytes_cost_at_most.ensures by setup (before_fault (receipts by setup) bytes) (length bytes) (c.items_grow.ensures (Receipts by setup)).nothing
    (before_few (receipts by setup) bytes)

pub returns-clause-labels : goal.returns-clause-labels
returns-clause-labels c = λ by sheets bytes.
    let all = c.bytes_cost_at_most-2.ensures.last sheets by (before_fault (labels by sheets) bytes) in
    omega (arith, all, before_few (labels by sheets) bytes)
