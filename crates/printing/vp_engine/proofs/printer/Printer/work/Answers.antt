use Rattle.std.proofs.Common.{sym, subst}
use Rattle.vp_engine.specs.Paper.{history, before_fault}
use Rattle.vp_engine.specs.Setups.{rules_of}
use Rattle.vp_engine.specs.Stands.{Engine, Stands}
use Rattle.vp_engine.specs.Work.{IsWorkAfter}
use Rattle.vp_engine.proofs.printer.Printer.work.Goals as goal

pub returns-clause-bounds : goal.returns-clause-bounds
returns-clause-bounds g c setup t o s =
    subst (λ (p : Engine). IsWorkAfter setup (history (rules_of setup) (before_fault (rules_of setup) t)) p.pending c.work.result) c.self.view_is
    (c.work.ensures.bounds setup t _ (subst (λ (p : Engine). Stands setup p t o) (sym c.self.view_is) s).machine)
