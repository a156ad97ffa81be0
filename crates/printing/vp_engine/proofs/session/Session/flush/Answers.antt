use Rattle.std.proofs.Common.{refl, ◌∙◌}
use Rattle.vp_engine.proofs.Desks.{accepts_more, accepts_start}
use Rattle.vp_engine.proofs.session.Session.flush.Goals as goal

pub writes-preserved : goal.writes-preserved
writes-preserved g c =
    let i = c.writes.invariant in let e = c.write_once.ensures in
    record {
      at = λ setup r w a. accepts_more setup _ _ _ _ _ r w (i.at setup r w a) (λ v h. e.at setup r v h);
      rest = record { printer = e.rest.printer ∙ i.rest.printer; unread = e.rest.unread ∙ i.rest.unread; taken = e.rest.taken ∙ i.rest.taken };
      failed = c.in_ok-write_once.ensures.ok ∙ i.failed;
    }

pub returns-in_err-write_once-clause-at : goal.returns-in_err-write_once-clause-at
returns-in_err-write_once-clause-at g c setup r w a =
    accepts_more setup _ _ _ _ _ r w (c.writes.invariant.at setup r w a) (λ v h. c.write_once.ensures.at setup r v h)

pub writes-init : goal.writes-init
writes-init g c = record {
  at = λ setup r w a. accepts_start setup _ c.args.self.now r w a;
  rest = record { printer = refl; unread = refl; taken = refl };
  failed = refl;
}
