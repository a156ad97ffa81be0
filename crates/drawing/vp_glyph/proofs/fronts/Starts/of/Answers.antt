use Rattle.std.proofs.Common.{arith}
use Rattle.std.proofs.lemmas.List.{length-set, get_or-set_same, get_or-set_other}
use Rattle.vp_glyph.proofs.fronts.Starts.of.Goals as goal

pub loop-s-preserved : goal.loop-s-preserved
loop-s-preserved c = grind (arith, length-set, get_or-set_same, get_or-set_other, c.loop-s.invariant.count)
