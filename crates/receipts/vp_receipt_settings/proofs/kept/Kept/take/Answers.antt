use Rattle.std.proofs.Common.{◌∷◌, refl, sym, subst}
use Rattle.vp_esc.specs.declared.item.EscItem.{EscItem}
use Rattle.vp_receipt_settings.specs.Gathering.{IsGathering}
use Rattle.vp_receipt_settings.proofs.kept.Kept.take.Goals as goal

pub returns-in-Raster-clause-gathers : goal.returns-in-Raster-clause-gathers
returns-in-Raster-clause-gathers c = λ before.
    subst (λ (item : EscItem). IsGathering c.begin.new.self (item ∷ before)) (sym c.in-Raster.is) (c.begin.ensures.gathers c.in-Raster.scale before refl)
