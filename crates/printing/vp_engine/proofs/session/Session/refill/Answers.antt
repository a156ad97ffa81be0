use Rattle.std.proofs.Common.{refl, sym, ap, subst, ◌∙◌}
use Rattle.vp_engine.specs.Session.{Desk, IsAt}
use Rattle.vp_engine.specs.contracts.session.Session.{the_view}
use Rattle.vp_engine.proofs.Desks.{at_refills}
use Rattle.vp_engine.proofs.session.Session.refill.Goals as goal

pub invariant_of-self : goal.invariant_of-self
invariant_of-self g c =
    let i = c.self.invariant in
    let none = ap (λ (s : Desk). s.unwritten) c.self.view_is ∙ c.requires in
    (i.0, i.1, i.2, at_refills i.0 (the_view g.row.A g.A.Allocator c.self.inside) _ i.1 i.2 c.step.result.taken i.3 c.step.ensures.taken none (c.step.ensures.stands i.0) refl refl refl c.step.ensures.fit)

pub returns-clause-at : goal.returns-clause-at
returns-clause-at g c setup r w a =
    let none = ap (λ (s : Desk). s.unwritten) c.self.view_is ∙ c.requires in
    at_refills setup (the_view g.row.A g.A.Allocator c.self.inside) _ r w c.step.result.taken (subst (λ (s : Desk). IsAt setup s r w) (sym c.self.view_is) a) c.step.ensures.taken none (c.step.ensures.stands setup) refl refl refl c.step.ensures.fit
