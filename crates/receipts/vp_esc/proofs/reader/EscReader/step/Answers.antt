use Rattle.std.proofs.Common.{refl, subst}
use Rattle.vp_esc.specs.Reader.{in_phase}
use Rattle.vp_esc.proofs.Fronts.{stopped}
use Rattle.vp_esc.proofs.reader.EscReader.step.Goals as goal

pub returns-in-Stopped : goal.returns-in-Stopped
returns-in-Stopped c rest stands =
    stopped _ rest _ c.in-Stopped.fault c.args.self.now refl (rw c.in-Stopped.is at stands) c.in-Stopped.is

pub returns-in-Arguments : goal.returns-in-Arguments
returns-in-Arguments c rest stands = c.argument.ensures rest (subst (λ p. in_phase p c.args.self.now rest) c.in-Arguments.is stands)

pub returns-in-Stops : goal.returns-in-Stops
returns-in-Stops c rest stands = c.stop.ensures rest (subst (λ p. in_phase p c.args.self.now rest) c.in-Stops.is stands)
