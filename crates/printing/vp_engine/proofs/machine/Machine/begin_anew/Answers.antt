use Rattle.std.proofs.Common.{[]}
use Rattle.vp_engine.proofs.Anew.{lines_anew}
use Rattle.vp_engine.proofs.Arms.{at_receipt, at_lines, at_label, at_label_lines}
use Rattle.vp_engine.proofs.Plain.{to_plain}
use Rattle.vp_engine.proofs.machine.Machine.begin_anew.Goals as goal

pub returns-in-Receipt-clause-stands : goal.returns-in-Receipt-clause-stands
returns-in-Receipt-clause-stands g c = at_receipt _ _ _ _ c.in-Receipt.is (λ by s t before at. (c.begin_anew.ensures by t at.0, c.begin_anew-in-Receipt.ensures.stands s before at.1))

pub returns-in-ReceiptLines-clause-stands : goal.returns-in-ReceiptLines-clause-stands
returns-in-ReceiptLines-clause-stands g c =
    at_lines _ _ _ _ c.in-ReceiptLines.is (λ by w t before at. (c.begin_anew-in-ReceiptLines.ensures by t at.0, lines_anew w c.in-ReceiptLines.lines _ t before c.begin_anew-in-ReceiptLines-2.ensures at.1))

pub returns-in-Label-clause-stands : goal.returns-in-Label-clause-stands
returns-in-Label-clause-stands g c = at_label _ _ _ _ c.in-Label.is (λ by s t before at. (c.begin_anew-in-Label.ensures by t at.0, to_plain s _ [] (c.begin_anew-in-Label-2.ensures.stands s before at.1)))

pub returns-in-LabelLines-clause-stands : goal.returns-in-LabelLines-clause-stands
returns-in-LabelLines-clause-stands g c =
    at_label_lines _ _ _ _ c.in-LabelLines.is (λ by w t before at. (c.begin_anew-in-LabelLines.ensures by t at.0, lines_anew w c.in-LabelLines.lines _ t before c.begin_anew-in-LabelLines-2.ensures at.1))
