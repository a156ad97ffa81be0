use Rattle.std.proofs.Common.{◌∙◌}
use Rattle.vp_engine.proofs.Arms.{at_lines, at_label_lines}
use Rattle.vp_engine.proofs.machine.Machine.lines.Goals as goal

pub returns-in-ReceiptLines : goal.returns-in-ReceiptLines
returns-in-ReceiptLines g c = at_lines _ _ _ _ c.in-ReceiptLines.is (λ by w t before at. c.count.ensures ∙ at.1.count)

pub returns-in-LabelLines : goal.returns-in-LabelLines
returns-in-LabelLines g c = at_label_lines _ _ _ _ c.in-LabelLines.is (λ by w t before at. c.count-in-LabelLines.ensures ∙ at.1.count)
