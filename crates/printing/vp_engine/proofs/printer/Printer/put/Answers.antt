use Rattle.std.proofs.Common.{◌≡◌, ◌++◌, List, [], ℕ, take, length, refl, sym, subst, IsSome, ap, arith, ◌∙◌}
use Rattle.vp_engine.specs.Setups.{Setup}
use Rattle.vp_engine.specs.Machines.{machine_of, pending_of}
use Rattle.vp_engine.specs.Stands.{Engine, Stands, printer_of}
use Rattle.vp_engine.proofs.Steps.{stands_put, stopped_idle, put_text, put_rest, put_full}
use Rattle.vp_engine.proofs.Memories.{memory_stays}
use Rattle.vp_engine.proofs.printer.Printer.put.Given.{Over}
use Rattle.vp_engine.proofs.printer.Printer.put.Goals as goal

text : (g : Over) (c : goal.After-slice_known-2-1 g) → pending_of (machine_of c.self.inside.machine) ≡ take c.put.result c.put.new.output ++ pending_of (machine_of c.put.new.self)
text g c = put_text _ _ c.args.output.now c.put.new.output c.put.result c.put.ensures.count c.put.ensures.bytes c.put.ensures.rest

stands : (g : Over) (c : goal.After-slice_known-2-1 g) (setup : Setup) (t o : List ℕ) → Stands setup (printer_of (machine_of c.self.inside.machine) c.self.inside.stopped) t o →
    Stands setup (printer_of (machine_of c.put.new.self) c.self.inside.stopped) t (o ++ take c.put.result c.put.new.output)
stands g c setup t o s = stands_put setup _ _ t o _ s (c.put.ensures.stands setup t _ s.machine) refl (text g c)

pub invariant_of-self : goal.invariant_of-self
invariant_of-self g c = let i = c.self.invariant in (i.0, i.1, i.2 ++ take c.put.result c.put.new.output, stands g c i.0 i.1 i.2 i.3)

pub returns-clause-stands : goal.returns-clause-stands
returns-clause-stands g c setup t o s = stands g c setup t o (subst (λ (p : Engine). Stands setup p t o) (sym c.self.view_is) s)

pub returns-clause-text : goal.returns-clause-text
returns-clause-text g c = sym (ap (λ (p : Engine). p.pending) c.self.view_is) ∙ text g c

pub returns-clause-rest : goal.returns-clause-rest
returns-clause-rest g c = put_rest (pending_of (machine_of c.self.inside.machine)) c.args.output.now c.put.new.output c.put.result c.put.ensures.count c.put.ensures.bytes

pub returns-clause-full : goal.returns-clause-full
returns-clause-full g c h = put_full (pending_of (machine_of c.self.inside.machine)) (pending_of (machine_of c.put.new.self)) c.args.output.now c.put.result c.put.ensures.count c.put.ensures.rest h

pub returns-clause-none : goal.returns-clause-none
returns-clause-none g c h =
    let i = c.self.invariant in
    let none : pending_of (machine_of c.self.inside.machine) ≡ [] = stopped_idle i.0 _ i.1 i.2 i.3 (subst (λ (p : Engine). IsSome p.stopped) (sym c.self.view_is) h) in
    omega (arith, c.put.ensures.count, ap length none)

pub returns-clause-memory : goal.returns-clause-memory
returns-clause-memory g c = grind (arith, memory_stays, stands)
