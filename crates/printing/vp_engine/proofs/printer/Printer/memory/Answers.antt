use Rattle.std.proofs.Common.{sym, subst, ◌∙◌}
use Rattle.vp_engine.specs.Stands.{Engine, Stands}
use Rattle.vp_engine.proofs.Memories.{made_with}
use Rattle.vp_engine.proofs.printer.Printer.memory.Goals as goal

pub returns-clause-made_with : goal.returns-clause-made_with
returns-clause-made_with g c setup t o s =
    c.memory.ensures ∙ made_with setup _ t o (subst (λ (p : Engine). Stands setup p t o) (sym c.self.view_is) s)
