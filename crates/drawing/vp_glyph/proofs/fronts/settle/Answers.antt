use Rattle.std.proofs.Common.{arith}
use Rattle.vp_glyph.proofs.Gathered.{settled_none, settled_white, settled_all}
use Rattle.vp_glyph.proofs.fronts.settle.Goals as goal
use Rattle.vp_glyph.proofs.fronts.settle.Goals.{then-from, else-from}

pub loop-k-init : goal.loop-k-init
loop-k-init g c = settled_none _ _ _

pub loop-k-preserved-then-groups-k-eq0 : goal.loop-k-preserved-then-groups-k-eq0
loop-k-preserved-then-groups-k-eq0 g c = settled_white _ _ _ _ _ c.loop-k.invariant c.if-groups-k-eq0.true

pub loop-k-preserved : goal.loop-k-preserved
loop-k-preserved g c = grind arith

pub returns : goal.returns
returns g c = settled_all _ _ _ _ _ (omega arith) c.loop-k.invariant
