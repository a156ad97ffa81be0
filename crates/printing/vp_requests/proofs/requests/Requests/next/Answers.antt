use Rattle.std.proofs.Common.{◌++◌, take, ◌∙◌}
use Rattle.vp_requests.proofs.Arms.{of_receipt, of_label, of_receipts, of_labels, receipts_stand, labels_stand, receipts_first, labels_first, receipts_all, labels_all}
use Rattle.vp_requests.proofs.requests.Requests.next.Goals as goal

pub returns-in-Receipt-clause-told : goal.returns-in-Receipt-clause-told
returns-in-Receipt-clause-told c = λ language bytes told t.
    let of = of_receipt language c.args.self.now bytes told t c.in-Receipt.receipts c.in-Receipt.is in
    receipts_stand language of.0 _ _ _ (c.next.ensures.told bytes told of.1)

pub returns-in-Receipt-clause-first : goal.returns-in-Receipt-clause-first
returns-in-Receipt-clause-first c = λ language bytes told t.
    let of = of_receipt language c.args.self.now bytes told t c.in-Receipt.receipts c.in-Receipt.is in
    receipts_first language of.0 _ _ _ (c.next.ensures.told bytes told of.1)

pub returns-in-Receipt-clause-at_its_byte : goal.returns-in-Receipt-clause-at_its_byte
returns-in-Receipt-clause-at_its_byte c = λ language bytes told n t lt.
    let of = of_receipt language c.args.self.now bytes told t c.in-Receipt.receipts c.in-Receipt.is in
    of_receipts language (bytes ++ take n c.args.input.now) of.0 ∙ c.next.ensures.at_its_byte bytes told n of.1 lt

pub returns-in-Receipt-clause-all_told : goal.returns-in-Receipt-clause-all_told
returns-in-Receipt-clause-all_told c = λ none language bytes told t.
    let of = of_receipt language c.args.self.now bytes told t c.in-Receipt.receipts c.in-Receipt.is in
    receipts_all language of.0 c.next.new.self bytes c.args.input.now told _ _ none (c.next.ensures.all_taken none) (c.next.ensures.all none)
    (c.next.ensures.told bytes told of.1)

pub returns-in-Label-clause-told : goal.returns-in-Label-clause-told
returns-in-Label-clause-told c = λ language bytes told t.
    let of = of_label language c.args.self.now bytes told t c.in-Label.labels c.in-Label.is in
    labels_stand language of.0 _ _ _ (c.next-in-Label.ensures.told bytes told of.1)

pub returns-in-Label-clause-first : goal.returns-in-Label-clause-first
returns-in-Label-clause-first c = λ language bytes told t.
    let of = of_label language c.args.self.now bytes told t c.in-Label.labels c.in-Label.is in
    labels_first language of.0 _ _ _ (c.next-in-Label.ensures.told bytes told of.1)

pub returns-in-Label-clause-at_its_byte : goal.returns-in-Label-clause-at_its_byte
returns-in-Label-clause-at_its_byte c = λ language bytes told n t lt.
    let of = of_label language c.args.self.now bytes told t c.in-Label.labels c.in-Label.is in
    of_labels language (bytes ++ take n c.args.input.now) of.0 ∙ c.next-in-Label.ensures.at_its_byte bytes told n of.1 lt

pub returns-in-Label-clause-all_told : goal.returns-in-Label-clause-all_told
returns-in-Label-clause-all_told c = λ none language bytes told t.
    let of = of_label language c.args.self.now bytes told t c.in-Label.labels c.in-Label.is in
    labels_all language of.0 c.next-in-Label.new.self bytes c.args.input.now told _ _ none (c.next-in-Label.ensures.all none)
    (c.next-in-Label.ensures.told bytes told of.1)
