use Rattle.std.proofs.Common.{arith}
use Rattle.vp_strips.proofs.Doubling.{doubled_none, doubled_more, doubled_all}
use Rattle.vp_strips.proofs.raster_row.doubled.Goals as goal

pub loop-i-init : goal.loop-i-init
loop-i-init c = doubled_none _

pub loop-i-preserved : goal.loop-i-preserved
loop-i-preserved c = doubled_more c.args.row.now _ _ _ _ c.doubled_half.ensures c.doubled_half-in-loop-i.ensures (omega arith) c.loop-i.invariant

pub returns : goal.returns
returns c = doubled_all _ _ _ _ c.min-i-end.ensures c.loop-i-test.false c.loop-i.invariant
