use Rattle.std.proofs.Common.{sym, subst}
use Rattle.vp_engine.specs.Stands.{Engine, Stands}
use Rattle.vp_engine.proofs.printer.Printer.lines.Goals as goal

pub returns : goal.returns
returns g c setup t o s = c.lines.ensures setup t _ (subst (λ (p : Engine). Stands setup p t o) (sym c.self.view_is) s).machine
