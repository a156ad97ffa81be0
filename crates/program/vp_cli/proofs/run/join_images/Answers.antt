use Rattle.std.proofs.Common.{ap, inl}
use Rattle.vp_cli.proofs.Ends.{joined_with}
use Rattle.vp_cli.proofs.run.join_images.Goals as goal

pub returns : goal.returns
returns g c = inl (record {
  first = c.in-Ok.file;
  second = c.in-Ok-open.file;
  first_named = c.in-Ok.ensures;
  second_named = c.in-Ok-open.ensures;
  first_last = g.F.File.Read.remaining c.joined-height.new.first.inner;
  second_last = g.F.File.Read.remaining c.joined-height.new.second.inner;
  answer = c.joined-height.result.0;
  joined = joined_with c.args.form (g.F.File.Read.remaining c.new.result.inner) (g.F.File.Read.remaining c.new-2.result.inner)
      (g.F.File.Read.remaining c.joined-height.new.first.inner) (g.F.File.Read.remaining c.joined-height.new.second.inner)
      (g.F.File.Read.remaining c.in-Ok.file) (g.F.File.Read.remaining c.in-Ok-open.file)
      (g.K.Sink.contents c.args.output) (g.K.Sink.contents c.joined-height.result.1) c.joined-height.result.0
      (ap g.F.File.Read.remaining (ap (λ t. t.inner) c.new.ensures)) (ap g.F.File.Read.remaining (ap (λ t. t.inner) c.new-2.ensures))
      c.joined-height.ensures;
  ended_is = c.ended_joining.ensures;
})
