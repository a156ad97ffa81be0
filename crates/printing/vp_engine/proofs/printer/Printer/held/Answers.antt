use Rattle.std.proofs.Common.{sym, subst, ap, ◌∙◌, drop, length}
use Rattle.std.proofs.Math.Seq.{drop-append_seam}
use Rattle.vp_engine.specs.Paper.{history, before_fault}
use Rattle.vp_engine.specs.Setups.{rules_of}
use Rattle.vp_engine.specs.Stands.{Engine, Stands}
use Rattle.vp_engine.proofs.printer.Printer.held.Goals as goal

pub returns-clause-value : goal.returns-clause-value
returns-clause-value g c setup t o s0 =
    let s = subst (λ (p : Engine). Stands setup p t o) (sym c.self.view_is) s0 in
    c.held.ensures.value setup t _ s.machine
    ∙ ap ((rules_of setup).held (history (rules_of setup) (before_fault (rules_of setup) t))) (sym (drop-append_seam o _) ∙ ap (drop (length o)) s.pending)
