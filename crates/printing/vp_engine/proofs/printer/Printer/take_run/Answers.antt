use Rattle.std.proofs.Common.{◌++◌, List, ℕ, take, sym, ap, subst, ◌∙◌}
use Rattle.vp_engine.specs.Setups.{Setup}
use Rattle.vp_engine.specs.Machines.{machine_of}
use Rattle.vp_engine.specs.Stands.{Engine, Stands, printer_of}
use Rattle.vp_engine.specs.Memory.{memory_held}
use Rattle.vp_engine.proofs.Memories.{memory_stays}
use Rattle.vp_engine.proofs.Runs.{stands_run}
use Rattle.vp_engine.proofs.printer.Printer.take_run.Given.{Over}
use Rattle.vp_engine.proofs.printer.Printer.take_run.Goals as goal

stands : (g : Over) (c : goal.After-slice_known-2-1 g) (setup : Setup) (t o : List ℕ) → Stands setup (printer_of (machine_of c.self.inside.machine) c.self.inside.stopped) t o →
    Stands setup (printer_of (machine_of c.take_run.new.self) c.self.inside.stopped) (t ++ take c.take_run.result.taken c.args.input.now) (o ++ take c.take_run.result.put c.take_run.new.output)
stands g c setup t o s =
    let idle = ap (λ (p : Engine). p.pending) c.self.view_is ∙ c.requires.idle in
    let run = ap (λ (p : Engine). p.stopped) c.self.view_is ∙ c.requires.running in
    stands_run setup _ _ t o _ _ (c.items_grow.ensures setup) s idle run (c.take_run.ensures.takes setup t) c.take_run.ensures.pending run

pub invariant_of-self : goal.invariant_of-self
invariant_of-self g c =
    let i = c.self.invariant in
    (i.0, i.1 ++ take c.take_run.result.taken c.args.input.now, i.2 ++ take c.take_run.result.put c.take_run.new.output, stands g c i.0 i.1 i.2 i.3)

pub returns-clause-stands : goal.returns-clause-stands
returns-clause-stands g c setup t o s = stands g c setup t o (subst (λ (p : Engine). Stands setup p t o) (sym c.self.view_is) s)

pub returns-clause-memory : goal.returns-clause-memory
returns-clause-memory g c =
    let i = c.self.invariant in
    memory_stays i.0 _ _ i.1 i.2 _ _ i.3 (stands g c i.0 i.1 i.2 i.3) ∙ ap memory_held c.self.view_is
