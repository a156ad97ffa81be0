use Rattle.std.proofs.Common.{refl}
use Rattle.vp_zpl.specs.Reader.{Stands}
use Rattle.vp_zpl.specs.Commands.{cut}
use Rattle.vp_zpl.proofs.Steps.{gives-from, stands-from}
use Rattle.vp_zpl.proofs.reader.ZplReader.take.Goals as goal

pub returns-in-Nothing : goal.returns-in-Nothing
unfolding Stands
returns-in-Nothing c = (
  (refl, (λ _. tt), (λ reading bytes stands. stands-from _ _ bytes _ (c.step.ensures reading (cut reading bytes) stands))),
  record { stands = tt; gives = (λ reading bytes stands. gives-from _ _ bytes _ (c.in-Nothing.ensures reading (cut reading bytes) stands)) },
)

pub returns-in-Given : goal.returns-in-Given
unfolding Stands
returns-in-Given c = (
  (refl, (λ _. tt), (λ reading bytes stands. stands-from _ _ bytes _ (c.step.ensures reading (cut reading bytes) stands))),
  record { stands = tt; gives = (λ reading bytes stands. gives-from _ _ bytes _ (c.in-Given.ensures reading (cut reading bytes) stands)) },
)

pub returns-in-Data : goal.returns-in-Data
unfolding Stands
returns-in-Data c = (
  (refl, (λ _. tt), (λ reading bytes stands. stands-from _ _ bytes _ (c.step.ensures reading (cut reading bytes) stands))),
  record { stands = tt; gives = (λ reading bytes stands. gives-from _ _ bytes _ (c.in-Data.ensures reading (cut reading bytes) stands)) },
)
