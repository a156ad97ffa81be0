use Rattle.vp_bars.proofs.PlainTexts.{code39_text, code39_checked}
use Rattle.vp_bars.proofs.laws.code39_text_law.Goals as goal

pub returns-clause-data_alone : goal.returns-clause-data_alone
returns-clause-data_alone c = code39_text

pub returns-clause-with_check : goal.returns-clause-with_check
returns-clause-with_check c = code39_checked
