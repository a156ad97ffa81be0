use Rattle.vp_bars.proofs.DigitTexts.{ean13_text}
use Rattle.vp_bars.proofs.laws.ean13_text_law.Goals as goal

pub returns : goal.returns
returns c = ean13_text
