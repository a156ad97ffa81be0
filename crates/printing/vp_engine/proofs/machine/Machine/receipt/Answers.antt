use Rattle.vp_engine.proofs.machine.Machine.receipt.Goals as goal

pub returns-clause-stands : goal.returns-clause-stands
returns-clause-stands g c = (c.new-2.ensures.stands, c.in_ok-receipt.ensures.stands)
