use Rattle.std.proofs.Common.{◌∙◌, ap, inl, inr, refl, Ok, Err}
use Rattle.vp_cli.specs.Orders.{setup_in}
use Rattle.vp_cli.proofs.Ends.{does_with, err_is}
use Rattle.vp_cli.proofs.run.carry_out.Goals as goal

pub returns-in_err-work : goal.returns-in_err-work
returns-in_err-work g c = record {
  setup = Err c.in_err-work.field-0.0;
  is_setup = c.in_err-work.ensures c.args.stream.language;
  followed = (err_is c.from_residual.result _ c.from_residual.ensures.1, refl, refl);
}

pub returns-in_default : goal.returns-in_default
returns-in_default g c = record {
  setup = Ok (setup_in c.args.stream.language c.in_ok-work.work);
  is_setup = c.in_ok-work.ensures c.args.stream.language;
  followed = rw c.in_default.is c.work_on.ensures;
}

pub returns-in_err-file : goal.returns-in_err-file
returns-in_err-file g c = record {
  setup = Ok (setup_in c.args.stream.language c.in_ok-work.work);
  is_setup = c.in_ok-work.ensures c.args.stream.language;
  followed = rw c.in-Some.is (
    refl,
    inl (err_is c.from_residual-in_err-file.result _ c.from_residual-in_err-file.ensures.1 ∙ ap Err c.in_err-file.ensures, refl),
  );
}

pub returns : goal.returns
returns g c = record {
  setup = Ok (setup_in c.args.stream.language c.in_ok-work.work);
  is_setup = c.in_ok-work.ensures c.args.stream.language;
  followed = rw c.in-Some.is (
    refl,
    inr (
      c.in_ok-file.file,
      c.in_ok-file.ensures,
      g.F.File.Read.remaining c.work_on-2.new.input.inner,
      does_with (g.K.Sink.contents c.args.output.now) (g.K.Sink.contents c.work_on-2.new.output)
          (setup_in c.args.stream.language c.in_ok-work.work) (g.F.File.Read.remaining c.new.result.inner)
          (g.F.File.Read.remaining c.in_ok-file.file) (g.F.File.Read.remaining c.work_on-2.new.input.inner) c.work_on-2.result
          (ap g.F.File.Read.remaining (ap (λ t. t.inner) c.new.ensures)) c.work_on-2.ensures,
    ),
  );
}
