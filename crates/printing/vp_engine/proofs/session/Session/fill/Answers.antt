use Rattle.std.proofs.Common.{◌++◌, refl, ap, ◌∙◌}
use Rattle.vp_engine.specs.Session.{Desk}
use Rattle.vp_engine.specs.contracts.session.Session.{the_view}
use Rattle.vp_engine.proofs.Desks.{at_fills}
use Rattle.vp_engine.proofs.session.Session.fill.Goals as goal

pub invariant_of-self : goal.invariant_of-self
invariant_of-self g c =
    let i = c.self.invariant in
    let none = ap (λ (s : Desk). s.unread) c.self.view_is ∙ c.requires in
    (i.0, i.1 ++ c.read_from.new.self, i.2, at_fills i.0 (the_view g.row.A g.A.Allocator c.self.inside) _ i.1 i.2 i.3 none refl refl refl refl c.read_from.ensures.fit)
