use Rattle.std.proofs.Common.{[], List, ℕ, None, sym, ap, subst, refl, ◌∙◌}
use Rattle.vp_engine.specs.Setups.{Setup}
use Rattle.vp_engine.specs.Machines.{machine_of}
use Rattle.vp_engine.specs.Memory.{memory_held}
use Rattle.vp_engine.specs.Stands.{Engine, Stands, printer_of}
use Rattle.vp_engine.proofs.Steps.{stands_first}
use Rattle.vp_engine.proofs.printer.Printer.begin_anew.Given.{Over}
use Rattle.vp_engine.proofs.printer.Printer.begin_anew.Goals as goal

stands : (g : Over) (c : goal.After-self-1 g) (setup : Setup) (t o : List ℕ) → Stands setup (printer_of (machine_of c.self.inside.machine) c.self.inside.stopped) t o →
    Stands setup (printer_of (machine_of c.begin_anew.new.self) None) [] []
stands g c setup t o s = stands_first setup _ (c.items_grow.ensures setup) (c.begin_anew.ensures.stands setup t _ s.machine) refl c.begin_anew.ensures.pending

pub invariant_of-self : goal.invariant_of-self
invariant_of-self g c = let i = c.self.invariant in (i.0, [], [], stands g c i.0 i.1 i.2 i.3)

pub returns : goal.returns
returns g c = record {
  stands = λ setup t o s. stands g c setup t o (subst (λ (p : Engine). Stands setup p t o) (sym c.self.view_is) s);
  idle = c.begin_anew.ensures.pending;
  running = refl;
  memory = c.begin_anew.ensures.memory ∙ ap memory_held c.self.view_is;
  work = c.begin_anew.ensures.work;
}
