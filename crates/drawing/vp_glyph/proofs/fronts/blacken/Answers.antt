use Rattle.std.proofs.Common.{arith}
use Rattle.std.proofs.lemmas.List.{length-set}
use Rattle.vp_glyph.proofs.Gathered.{blackened_more}
use Rattle.vp_glyph.proofs.fronts.blacken.Goals as goal

pub loop-i-preserved : goal.loop-i-preserved
loop-i-preserved g c = grind (arith, length-set, blackened_more, c.loop-i.invariant.count)

pub returns-clause-outside : goal.returns-clause-outside
returns-clause-outside g c = grind arith
