use Rattle.std.proofs.Common.{ap, arith}
use Rattle.vp_engine.specs.Session.{Desk}
use Rattle.vp_engine.proofs.Desks.{reaches_start, stop_answer}
use Rattle.vp_engine.proofs.Memories.{memory_stays}
use Rattle.vp_engine.proofs.session.Session.pump.Goals as goal

pub returns-in-Some-clause-pumps : goal.returns-in-Some-clause-pumps
returns-in-Some-clause-pumps g c setup r w a =
    let k = reaches_start setup _ _ c.args.self.now r w a in let e = c.in-Some.ensures.answer in
    record { reaches = k; answer = stop_answer setup c.args.self.now _ _ c.in-Some.fault _ _ k.at e.drained e.stopped (ap (λ (s : Desk). s.taken) c.self.view_is) }

-- what it has ended by is a fault of a byte
pub returns-in-Some-clause-at_end : goal.returns-in-Some-clause-at_end
returns-in-Some-clause-at_end g c f after e end = grind arith

pub returns-clause-at_end : goal.returns-clause-at_end
returns-clause-at_end g c f after e end = c.run.ensures.at_end f after e end

pub returns-clause-memory : goal.returns-clause-memory
returns-clause-memory g c =
    let i = c.somewhere.ensures in let before = i.3 in
    let after = (c.run.ensures.pumps i.0 i.1 i.2 before).reaches.at in
    memory_stays i.0 _ _ before.t before.o after.t after.o before.stands after.stands
