use Rattle.std.proofs.Common.{sym, subst, ◌∙◌}
use Rattle.vp_engine.specs.Stands.{Engine, Stands}
use Rattle.vp_engine.proofs.Steps.{ends_at}
use Rattle.vp_engine.proofs.printer.Printer.finish.Goals as goal

pub returns-in-Some-ending : goal.returns-in-Some-ending
returns-in-Some-ending g c setup t o s =
    ends_at setup _ t o _ (c.items_grow.ensures setup) (subst (λ (p : Engine). Stands setup p t o) (sym c.self.view_is) s) c.in_default.not-Some (c.ending.ensures setup t) ∙ c.in-Some-ending.is

pub returns-in-None : goal.returns-in-None
returns-in-None g c setup t o s =
    ends_at setup _ t o _ (c.items_grow.ensures setup) (subst (λ (p : Engine). Stands setup p t o) (sym c.self.view_is) s) c.in_default.not-Some (c.ending.ensures setup t) ∙ c.in-None.is
