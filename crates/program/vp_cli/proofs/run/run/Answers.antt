use Rattle.std.proofs.Common.{ap, refl, sym, Ok, Err}
use Rattle.vp_cli.proofs.Ends.{obeyed_with}
use Rattle.vp_cli.proofs.run.run.Goals as goal

pub returns-in-Ok : goal.returns-in-Ok
returns-in-Ok g c = record {
  choices = c.in-Ok.ensures.0;
  answer = Ok c.in-Ok.order;
  answered = c.in-Ok.ensures.1;
  run_by = (
    c.obey-output.result.0,
    obeyed_with (g.F.Folder.names c.args.folder.now) g.F.File.Read.remaining c.args.input.now c.obey-output.new.input g.I.Source.remaining
        (g.O.Write.contents c.new.result.inner) (g.O.Write.contents c.obey-output.result.1.inner)
        (g.O.Write.contents c.args.output) (g.O.Write.contents c.into_inner.result) c.in-Ok.order c.obey-output.result.0
        (ap g.O.Write.contents (ap (λ t. t.inner) c.new.ensures)) (ap g.O.Write.contents (sym c.into_inner.ensures)) c.obey-output.ensures,
    c.status.ensures,
  );
}

pub returns-in-Err : goal.returns-in-Err
returns-in-Err g c = record {
  choices = c.in-Err.ensures.0;
  answer = Err c.in-Err.error;
  answered = c.in-Err.ensures.1;
  run_by = (refl, c.usage.ensures.status, c.usage.ensures.kept);
}
