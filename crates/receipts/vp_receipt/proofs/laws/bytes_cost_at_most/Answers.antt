use Rattle.std.proofs.Common.{◌≡◌, ◌≤◌, ℕ, ◌+◌, ◌*◌, List, ◌++◌, length, reverse, arith, length-append}
use Rattle.std.proofs.lemmas.List.{length-reverse, reverse-append}
use Rattle.vp_esc.specs.declared.item.EscItem.{EscItem}
use Rattle.vp_esc.specs.Split.{items}
use Rattle.vp_receipt_settings.specs.Setup.{Setup}
use Rattle.vp_receipt_settings.specs.declared.text.TheConstants.{LINE_ROWS}
use Rattle.vp_page.specs.declared.page.TheConstants.{PAGE_ROWS, PAPER_DOTS}
use Rattle.vp_receipt.specs.Work.{most_in_all}
use Rattle.vp_receipt.proofs.ByBytes.{items_take, counts}
use Rattle.vp_receipt.proofs.laws.bytes_cost_at_most.Goals as goal

-- the items that were added are no more than the bytes
added_few : (setup : Setup) (old new added : List EscItem) (n : ℕ) → new ≡ old ++ added → length new ≤ length old + n
    → most_in_all setup (reverse new) ≤ most_in_all setup (reverse old) + (LINE_ROWS + PAGE_ROWS + PAPER_DOTS) * n
added_few setup old new added n e few = rw (e, reverse-append old added) (grind (arith, (items_take setup (reverse added) (reverse old)), few, e, length-append old added, length-reverse added))

pub returns : goal.returns
returns c = record {
  bytes = λ reading setup bytes more. let grown = c.only_more.ensures reading bytes more in
      added_few setup (items reading bytes) (items reading (bytes ++ more)) grown.0 (length more) grown.1 (c.a_byte_gives_at_most_one.ensures.bytes reading bytes more);
  counted = counts;
}
