use Rattle.std.proofs.Common.{refl}
use Rattle.vp_esc.specs.Reader.{Stands}
use Rattle.vp_esc.specs.Split.{fault_of}
use Rattle.vp_esc.specs.Units.{fault_in}
use Rattle.vp_esc.proofs.Rests.{rests}
use Rattle.vp_esc.proofs.reader.EscReader.at_rest.Goals as goal

pub returns-in_default : goal.returns-in_default
unfolding Stands
returns-in_default c reading bytes stands =
    (λ t. absurd (cc), λ e. absurd (rests c.args.self.now _ c.in_default.not-Ground stands.1 e.0))

pub returns-in-Ground : goal.returns-in-Ground
unfolding Stands fault_of fault_in
returns-in-Ground c reading bytes stands = let e = rw c.in-Ground.is at (stands.1) in (λ t. (e, rw e refl), λ e. refl)
