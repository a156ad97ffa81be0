use Rattle.std.proofs.Common.{refl, ◌∙◌}
use Rattle.vp_engine.proofs.Desks.{accepts_more, accepts_start, accepts_then}
use Rattle.vp_engine.proofs.session.Session.drain.Goals as goal

pub returns-in_err-flush-clause-at : goal.returns-in_err-flush-clause-at
returns-in_err-flush-clause-at g c setup r w a = accepts_more setup _ _ _ _ _ r w (c.drains.invariant.at setup r w a) (λ v h. c.flush.ensures.at setup r v h)

pub returns-then-not-pending-clause-at : goal.returns-then-not-pending-clause-at
returns-then-not-pending-clause-at g c setup r w a = accepts_more setup _ _ _ _ _ r w (c.drains.invariant.at setup r w a) (λ v h. c.flush.ensures.at setup r v h)

pub drains-preserved : goal.drains-preserved
drains-preserved g c = record {
  at = λ setup r w a. accepts_then setup _ _ _ _ r w (accepts_more setup _ _ _ _ _ r w (c.drains.invariant.at setup r w a) (λ v h. c.flush.ensures.at setup r v h)) (λ v h. c.refill.ensures.at setup r v h);
  unread = c.refill.ensures.unread ∙ c.flush.ensures.rest.unread ∙ c.drains.invariant.unread;
  failed = c.in_ok-flush.ensures.ok.1 ∙ c.drains.invariant.failed;
}

pub drains-init : goal.drains-init
drains-init g c = record { at = λ setup r w a. accepts_start setup _ c.args.self.now r w a; unread = refl; failed = refl }
