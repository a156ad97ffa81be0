use Rattle.std.proofs.Common.{sym, ap, subst, ◌∙◌}
use Rattle.vp_engine.specs.Paper.{history, before_fault}
use Rattle.vp_engine.specs.Session.{Desk, IsAt}
use Rattle.vp_engine.specs.Setups.{rules_of, lines_of}
use Rattle.vp_engine.proofs.Desks.{all_taken}
use Rattle.vp_engine.proofs.session.Session.lines.Goals as goal

pub returns : goal.returns
returns g c setup r w a0 =
    let a = subst (λ (s : Desk). IsAt setup s r w) (sym c.self.view_is) a0 in
    c.lines.ensures setup a.t a.o a.stands
    ∙ ap (λ x. lines_of setup (history (rules_of setup) (before_fault (rules_of setup) x))) (all_taken setup _ r w a (ap (λ (s : Desk). s.unread) c.self.view_is ∙ c.requires))
