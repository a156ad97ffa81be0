use Rattle.std.proofs.Common.{◌∙◌}
use Rattle.vp_engine.proofs.Desks.{accepts_more, accepts_then}
use Rattle.vp_engine.proofs.session.Session.settle.Goals as goal

pub inputs-preserved : goal.inputs-preserved
inputs-preserved g c = record {
  at = λ setup r w a. accepts_more setup _ _ _ _ _ r w (accepts_then setup _ _ _ _ r w (c.inputs.invariant.at setup r w a) (λ v h. c.advance.ensures.at setup r v h)) (λ v h. c.drain-in-inputs.ensures.at setup r v h);
  drained = c.in_ok-drain-2.ensures.ok.0;
  failed = c.in_ok-drain-2.ensures.ok.1 ∙ c.inputs.invariant.failed;
}

pub returns-in_err-drain-2-clause-at : goal.returns-in_err-drain-2-clause-at
returns-in_err-drain-2-clause-at g c setup r w a =
    accepts_more setup _ _ _ _ _ r w (accepts_then setup _ _ _ _ r w (c.inputs.invariant.at setup r w a) (λ v h. c.advance.ensures.at setup r v h)) (λ v h. c.drain-in-inputs.ensures.at setup r v h)
