use Rattle.vp_bars.proofs.PlainTexts.{label_text, receipt_text}
use Rattle.vp_bars.proofs.laws.set_b_text_law.Goals as goal

pub returns-clause-label : goal.returns-clause-label
returns-clause-label c = label_text

pub returns-clause-receipt : goal.returns-clause-receipt
returns-clause-receipt c = receipt_text
