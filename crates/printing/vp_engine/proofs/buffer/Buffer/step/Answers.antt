use Rattle.std.proofs.Common.{◌≡◌, ◌++◌, ◌-◌, take, sym, subst, arith}
use Rattle.vp_engine.specs.Stands.{Stands}
use Rattle.vp_engine.proofs.buffer.Buffer.step.Goals as goal

pub returns-clause-stands : goal.returns-clause-stands
returns-clause-stands g c setup t o s =
    let all : c.step-step.result.put - 0 ≡ c.step-step.result.put = omega arith in
    subst (λ n. Stands setup c.step-step.new.self (t ++ take c.step-step.result.taken c.args.input.now) (o ++ take n c.step-step.new.output)) (sym all) (c.step-step.ensures.stands setup t o s)
