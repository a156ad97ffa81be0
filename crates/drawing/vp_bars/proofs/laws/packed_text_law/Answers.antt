use Rattle.vp_bars.proofs.PackedTexts.{packed_text}
use Rattle.vp_bars.proofs.laws.packed_text_law.Goals as goal

pub returns : goal.returns
returns c = packed_text
