use Rattle.std.proofs.Common.{true, ◌∙◌}
use Rattle.vp_engine.proofs.Arms.{at_receipt, at_lines, at_label, at_label_lines}
use Rattle.vp_engine.proofs.Comes.{missing_is, missing_where}
use Rattle.vp_engine.proofs.machine.Machine.ending.Goals as goal

pub returns-in-Receipt : goal.returns-in-Receipt
returns-in-Receipt g c = at_receipt _ _ _ _ c.in-Receipt.is (λ by s t before at none. c.missing.ensures ∙ missing_is _ _ _ _ _ none (c.at_rest.ensures by t at.0) (c.at_rest-in-Receipt.ensures s before at.1))

pub returns-in-ReceiptLines : goal.returns-in-ReceiptLines
returns-in-ReceiptLines g c = at_lines _ _ _ _ c.in-ReceiptLines.is
    (λ by w t before at none. c.missing-in-ReceiptLines.ensures ∙ missing_is _ true true _ _ none (c.at_rest-in-ReceiptLines.ensures by t at.0) (λ e. e, λ e. e))

pub returns-in-Label : goal.returns-in-Label
returns-in-Label g c = at_label _ _ _ _ c.in-Label.is (λ by s t before at none.
    c.missing-in-Label.ensures ∙ missing_where _ _ _ _ (c.at_rest-in-Label.ensures by t at.0) (c.at_rest-in-Label-2.ensures s before at.1))

pub returns-in-LabelLines : goal.returns-in-LabelLines
returns-in-LabelLines g c = at_label_lines _ _ _ _ c.in-LabelLines.is
    (λ by w t before at none. c.missing-in-LabelLines.ensures ∙ missing_where _ true _ true (c.at_rest-in-LabelLines.ensures by t at.0) (λ e. e, λ e. e))
