use Rattle.std.proofs.Common.{◌≡◌, Option, Some, None, MatchOption, refl, sym, ap, ◌∙◌}
use Rattle.vp_dots.specs.declared.fault.Fault.{Fault}
use Rattle.vp_engine.specs.Paper.{IsOfByte}
use Rattle.vp_engine.specs.Stands.{Engine}
use Rattle.vp_engine.proofs.Steps.{stopped_idle}
use Rattle.vp_engine.proofs.printer.Printer.stopped.Goals as goal

pub returns-clause-idle : goal.returns-clause-idle
returns-clause-idle g c h =
    let i = c.self.invariant in
    sym (ap (λ (p : Engine). p.pending) c.self.view_is) ∙ stopped_idle i.0 _ i.1 i.2 i.3 h

if_some : (o : Option Fault) → ((f : Fault) → o ≡ Some f → IsOfByte f) → MatchOption o Unit IsOfByte
if_some None h = tt
if_some (Some f) h = h f refl

pub returns-clause-byte : goal.returns-clause-byte
returns-clause-byte g c =
    let i = c.self.invariant in
    if_some _ (λ f e. c.the_fault_tells_the_end.ensures.byte i.0 i.1 f (sym i.3.stopped ∙ e))
