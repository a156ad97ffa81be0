use Rattle.std.proofs.Common.{◌∷◌, ◌++◌, List, [], ℕ, sym, ap, subst, ◌∙◌}
use Rattle.vp_engine.specs.Setups.{Setup}
use Rattle.vp_engine.specs.Machines.{machine_of}
use Rattle.vp_engine.specs.Stands.{Engine, Stands, printer_of}
use Rattle.vp_engine.specs.Memory.{memory_held}
use Rattle.vp_engine.proofs.Memories.{memory_stays}
use Rattle.vp_engine.proofs.Steps.{stands_more}
use Rattle.vp_engine.proofs.printer.Printer.take.Given.{Over}
use Rattle.vp_engine.proofs.printer.Printer.take.Goals as goal

stands : (g : Over) (c : goal.After-self-1 g) (setup : Setup) (t o : List ℕ) → Stands setup (printer_of (machine_of c.self.inside.machine) c.self.inside.stopped) t o →
    Stands setup (printer_of (machine_of c.take.new.self) c.err-self-inside.result) (t ++ c.args.byte ∷ []) o
stands g c setup t o s =
    let idle = ap (λ (p : Engine). p.pending) c.self.view_is ∙ c.requires.idle in
    let run = ap (λ (p : Engine). p.stopped) c.self.view_is ∙ c.requires.running in
    stands_more setup _ _ t o c.args.byte c.take.result (c.items_grow.ensures setup) s idle run (c.take.ensures setup t _ s.machine) c.err-self-inside.ensures.value

pub invariant_of-self : goal.invariant_of-self
invariant_of-self g c = let i = c.self.invariant in (i.0, i.1 ++ c.args.byte ∷ [], i.2, stands g c i.0 i.1 i.2 i.3)

pub returns : goal.returns
returns g c =
    let i = c.self.invariant in
    record {
      stands = λ setup t o s. stands g c setup t o (subst (λ (p : Engine). Stands setup p t o) (sym c.self.view_is) s);
      memory = memory_stays i.0 _ _ i.1 i.2 _ _ i.3 (stands g c i.0 i.1 i.2 i.3) ∙ ap memory_held c.self.view_is;
    }
