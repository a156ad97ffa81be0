use Rattle.std.proofs.Common.{sym, arith}
use Rattle.vp_bars.proofs.InSets.{sets_done}
use Rattle.vp_bars.proofs.upc.push_in_sets.Goals as goal

pub returns-clause-items : goal.returns-clause-items
returns-clause-items c = sym (sets_done c.args.sets.now c.args.digits.now c.loop-i.values.items _ c.loop-i.i (omega (arith, c.min-i-end.ensures)) c.loop-i.invariant.all)
