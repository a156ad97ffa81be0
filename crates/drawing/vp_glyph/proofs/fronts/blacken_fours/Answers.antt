use Rattle.std.proofs.Common.{arith}
use Rattle.vp_glyph.proofs.Gathered.{Blackened}
use Rattle.vp_glyph.proofs.fronts.blacken_fours.Goals as goal

pub loop-k-preserved : goal.loop-k-preserved
loop-k-preserved g c = grind (arith, Blackened, c.blacken_next.ensures.inside)
