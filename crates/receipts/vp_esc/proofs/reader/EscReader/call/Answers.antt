use Rattle.std.proofs.Common.{[], ◌∷◌, refl, sym}
use Rattle.vp_esc.specs.Command.{lead_byte}
use Rattle.vp_esc.proofs.Fronts.{given_lead}
use Rattle.vp_esc.proofs.Phases.{land_begun}
use Rattle.vp_esc.proofs.reader.EscReader.call.Goals as goal

pub returns-in-None : goal.returns-in-None
returns-in-None c =
    c.pass_over.ensures (lead_byte c.args.self.now.lead ∷ []) c.args.byte
    (record { bytes = refl; unknown = rw (← c.in-None.ensures) refl }) (given_lead c.args.self.now.reading c.args.self.now.lead)

pub returns-in-Some : goal.returns-in-Some
returns-in-Some c =
    land_begun _ _ _ _ _ _ _ (sym c.in-Some.ensures) c.clear.ensures c.land.ensures
