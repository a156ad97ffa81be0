use Rattle.std.proofs.Common.{arith}
use Rattle.vp_dots.proofs.EndForEnd.{turned}
use Rattle.vp_dots.proofs.reversed.copy_reversed.Goals as goal

pub returns-clause-turned : goal.returns-clause-turned
returns-clause-turned c = turned c.args.row.now c.loop-j.line c.loop-j.invariant.len (λ i k h l. c.loop-j.invariant.done i k h (omega arith) l)
