use Rattle.std.proofs.Common.{[], ap, arith}
use Rattle.std.proofs.lemmas.Grind.{common_steps}
use Rattle.vp_join.specs.Told.{Told}
use Rattle.vp_join.proofs.Ends.{at_end}
use Rattle.vp_join.proofs.reading.Reading.finish.Goals as goal

pub returns-in-Between : goal.returns-in-Between
returns-in-Between c = λ b r h. at_end _ _ b r c.in-Between.is h

pub returns-in-InRows : goal.returns-in-InRows
returns-in-InRows c = λ b r h. ap (λ (t : Told). t.offence) (at_end _ _ b r c.in-InRows.is h)

pub returns-in-Stopped : goal.returns-in-Stopped
returns-in-Stopped c = λ b r h. ap (λ (t : Told). t.offence) (at_end _ _ b r c.in-Stopped.is h)

pub returns-in-AfterP : goal.returns-in-AfterP
returns-in-AfterP c = λ b r h. let k = h [] in grind (arith, common_steps, k, c.in-AfterP.is)
