use Rattle.std.proofs.Common.{◌++◌, take, refl, sym, subst}
use Rattle.vp_engine.specs.Session.{Desk, IsAt}
use Rattle.vp_engine.specs.contracts.session.Session.{the_view}
use Rattle.vp_engine.proofs.Desks.{at_wrote, accepts_none}
use Rattle.vp_engine.proofs.session.Session.write_once.Goals as goal

pub invariant_of-self : goal.invariant_of-self
invariant_of-self g c =
    let i = c.self.invariant in (
      i.0,
      i.1,
      i.2 ++ take c.in-Ok.n c.as_slice.result.now,
      at_wrote i.0 _ _ i.1 i.2 c.as_slice.result.now c.in-Ok.n i.3 c.as_slice.ensures.value c.in-Ok.ensures.bound refl refl refl c.consume.ensures c.saturating_add-self-inside.ensures,
    )

pub returns-else-n-eq0-clause-at : goal.returns-else-n-eq0-clause-at
returns-else-n-eq0-clause-at g c setup r w a = record {
  accepted = take c.in-Ok.n c.as_slice.result.now;
  appended = c.in-Ok.ensures.bytes;
  at = at_wrote setup (the_view g.row.A g.A.Allocator c.self.inside) _ r w c.as_slice.result.now c.in-Ok.n (subst (λ (s : Desk). IsAt setup s r w) (sym c.self.view_is) a) c.as_slice.ensures.value c.in-Ok.ensures.bound refl refl refl c.consume.ensures c.saturating_add-self-inside.ensures;
}

pub returns-in-Err-clause-at : goal.returns-in-Err-clause-at
returns-in-Err-clause-at g c setup r w a = accepts_none setup _ _ c.args.self.now c.args.self.now r w c.in-Err.ensures.bytes refl a
