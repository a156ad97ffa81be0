use Rattle.std.proofs.Common.{ap, refl, [], Ok, Err}
use Rattle.vp_cli.proofs.run.pump.Goals as goal

pub returns-in-Ok : goal.returns-in-Ok
returns-in-Ok g c = λ setup at. record {
  session = c.pump.new.self;
  answer = Ok c.in-Ok.field-0;
  pumps = c.in-Ok.ensures.pumps setup [] [] at;
  ended_is = refl;
}

pub returns-in-Err : goal.returns-in-Err
returns-in-Err g c = λ setup at. record {
  session = c.pump.new.self;
  answer = Err c.in-Err.fault;
  pumps = c.in-Err.ensures.pumps setup [] [] at;
  ended_is = ap Err c.ended_by.ensures;
}
