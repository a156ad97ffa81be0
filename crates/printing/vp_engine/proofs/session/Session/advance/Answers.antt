use Rattle.std.proofs.Common.{refl, sym, ap, subst, ◌∙◌}
use Rattle.vp_engine.specs.Session.{Desk, IsAt}
use Rattle.vp_engine.specs.contracts.session.Session.{the_view}
use Rattle.vp_engine.proofs.Desks.{at_steps}
use Rattle.vp_engine.proofs.session.Session.advance.Goals as goal

pub invariant_of-self : goal.invariant_of-self
invariant_of-self g c =
    let i = c.self.invariant in
    let none = ap (λ (s : Desk). s.unwritten) c.self.view_is ∙ c.requires in
    (i.0, i.1, i.2, at_steps i.0 (the_view g.row.A g.A.Allocator c.self.inside) _ i.1 i.2 c.as_slice.result.now c.step-step.result.taken i.3 c.as_slice.ensures.value c.step-step.ensures.taken none (c.step-step.ensures.stands i.0) c.consume.ensures c.saturating_add-self-inside.ensures refl c.step-step.ensures.fit)

pub returns-clause-at : goal.returns-clause-at
returns-clause-at g c setup r w a =
    let none = ap (λ (s : Desk). s.unwritten) c.self.view_is ∙ c.requires in
    at_steps setup (the_view g.row.A g.A.Allocator c.self.inside) _ r w c.as_slice.result.now c.step-step.result.taken (subst (λ (s : Desk). IsAt setup s r w) (sym c.self.view_is) a) c.as_slice.ensures.value c.step-step.ensures.taken none (c.step-step.ensures.stands setup) c.consume.ensures c.saturating_add-self-inside.ensures refl c.step-step.ensures.fit
