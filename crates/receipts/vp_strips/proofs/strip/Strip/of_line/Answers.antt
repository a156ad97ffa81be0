use Rattle.std.proofs.Common.{arith}
use Rattle.vp_strips.proofs.LineTexts.{text_is}
use Rattle.vp_strips.proofs.strip.Strip.of_line.Goals as goal

pub returns-clause-text : goal.returns-clause-text
returns-clause-text c = grind (arith, text_is)
