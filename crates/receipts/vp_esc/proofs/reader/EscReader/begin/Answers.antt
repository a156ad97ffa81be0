use Rattle.std.proofs.Common.{refl, sym}
use Rattle.vp_esc.specs.declared.reader.Phase.TheVariants as phases
use Rattle.vp_esc.proofs.Fronts.{leads, alone}
use Rattle.vp_esc.proofs.Kept.{advances_giving}
use Rattle.vp_esc.proofs.reader.EscReader.begin.Goals as goal

pub returns-in-Some : goal.returns-in-Some
returns-in-Some c = leads _ _ _ _ refl (sym c.in-Some.ensures) refl refl

pub returns-in-None : goal.returns-in-None
returns-in-None c =
    rw c.single-self.ensures
    (advances_giving (record c.args.self.now { phase = phases.Ground }) _ (alone _ _ _ refl (sym c.in-None.ensures) refl))
