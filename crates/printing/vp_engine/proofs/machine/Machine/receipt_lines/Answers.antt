use Rattle.std.proofs.Common.{arith}
use Rattle.vp_engine.proofs.machine.Machine.receipt_lines.Goals as goal

pub returns-clause-stands : goal.returns-clause-stands
returns-clause-stands g c = (c.new.ensures.stands, grind arith)
