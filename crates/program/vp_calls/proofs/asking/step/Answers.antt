use Rattle.std.proofs.Common.{sym, subst}
use Rattle.vp_calls.specs.Steps.{IsStep}
use Rattle.vp_calls.specs.declared.progress.Progress.{Progress}
use Rattle.vp_calls.proofs.Numbers.{is_more, is_room, is_stopped, stops, no_fault_unless}
use Rattle.vp_calls.proofs.asking.step.Goals as goal

pub returns : goal.returns
returns g c =
    let s = c.step.result in
    let e = c.step.ensures in
    subst (λ (done : Progress). IsStep c.args.printer.now c.step.new.self c.args.input.now c.args.output.now c.step.new.output done) (sym c.of.ensures) (record {
      taken = e.taken;
      put = e.put;
      rest = e.rest;
      full = e.full;
      drains = e.drains;
      moves = e.moves;
      stands = e.stands;
      more = λ h. e.more (is_more s.state h);
      room = λ h. e.room (is_room s.state h);
      stopped = λ f setup t o stands. (
        λ h. (e.stopped f setup t o stands).0 (is_stopped s f h),
        λ h. stops s f ((e.stopped f setup t o stands).1 h),
      );
      stopped_at = λ f setup t o stands h. e.stopped_at f setup t o stands (is_stopped s f h);
      no_fault_else = λ h. no_fault_unless s.state h;
      nothing_after = λ f h. let still = e.nothing_after f h in (still.taken, still.put, stops s f still.state);
      idle = λ h. e.idle (is_more s.state h);
      waits = λ h. e.waits (is_room s.state h);
      byte = λ f h. e.byte f (is_stopped s f h);
      memory = e.memory;
    })
