use Rattle.std.proofs.Common.{refl, sym, ap, ◌∙◌}
use Rattle.vp_engine.specs.Machines.{machine_of, pending_of}
use Rattle.vp_engine.proofs.Arms.{at_receipt, at_lines, at_label, at_label_lines}
use Rattle.vp_engine.proofs.machine.Machine.work.Goals as goal

pub returns-in-Receipt-clause-bounds : goal.returns-in-Receipt-clause-bounds
returns-in-Receipt-clause-bounds g c = at_receipt _ _ _ _ c.in-Receipt.is (λ by s t before at paged.
    (c.work.ensures.at_least s before at.1 paged, c.work.ensures.at_most s before at.1 paged))

pub returns-in-Label-clause-bounds : goal.returns-in-Label-clause-bounds
returns-in-Label-clause-bounds g c = at_label _ _ _ _ c.in-Label.is (λ by s t before at.
    (c.work-in-Label.ensures.at_most s before at.1, λ none. c.work-in-Label.ensures.at_least s before at.1 (ap (λ m. pending_of (machine_of m)) (sym c.in-Label.is) ∙ none)))

pub returns-in-ReceiptLines-clause-bounds : goal.returns-in-ReceiptLines-clause-bounds
returns-in-ReceiptLines-clause-bounds g c = at_lines _ _ _ _ c.in-ReceiptLines.is (λ by w t before at. refl)

pub returns-in-LabelLines-clause-bounds : goal.returns-in-LabelLines-clause-bounds
returns-in-LabelLines-clause-bounds g c = at_label_lines _ _ _ _ c.in-LabelLines.is (λ by w t before at. refl)
