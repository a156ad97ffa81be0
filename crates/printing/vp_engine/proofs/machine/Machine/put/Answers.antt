use Rattle.std.proofs.Common.{◌∙◌}
use Rattle.vp_engine.proofs.Arms.{at_receipt, at_lines, at_label, at_label_lines}
use Rattle.vp_engine.proofs.Plain.{to_plain}
use Rattle.vp_engine.proofs.machine.Machine.put.Goals as goal

pub returns-in-Receipt-clause-stands : goal.returns-in-Receipt-clause-stands
returns-in-Receipt-clause-stands g c = at_receipt _ _ _ _ c.in-Receipt.is (λ by s t before at. (at.0, c.put.ensures.stands s before at.1))

pub returns-in-ReceiptLines-clause-stands : goal.returns-in-ReceiptLines-clause-stands
returns-in-ReceiptLines-clause-stands g c =
    at_lines _ _ _ _ c.in-ReceiptLines.is (λ by w t before at. (at.0, record { count = c.put-in-ReceiptLines.ensures.count ∙ at.1.count; taken = c.put-in-ReceiptLines.ensures.taken ∙ at.1.taken }))

pub returns-in-Label-clause-stands : goal.returns-in-Label-clause-stands
returns-in-Label-clause-stands g c = at_label _ _ _ _ c.in-Label.is (λ by s t before at. (at.0, to_plain s _ before (c.put-in-Label.ensures.stands s before at.1)))

pub returns-in-LabelLines-clause-stands : goal.returns-in-LabelLines-clause-stands
returns-in-LabelLines-clause-stands g c = at_label_lines _ _ _ _ c.in-LabelLines.is (λ by w t before at. (at.0, record { count = c.put-in-LabelLines.ensures.count ∙ at.1.count; taken = c.put-in-LabelLines.ensures.taken ∙ at.1.taken }))
