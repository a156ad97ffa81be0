use Rattle.std.proofs.Common.{arith}
use Rattle.vp_strips.proofs.LineTexts.{drawn_is}
use Rattle.vp_strips.proofs.strip.Strip.drawn.Goals as goal

pub returns-clause-text : goal.returns-clause-text
returns-clause-text c = grind (arith, drawn_is)
