use Rattle.std.proofs.Common.{◌∙◌, arith, sym}
use Rattle.vp_pdf417.proofs.ModeWords.{front_step, front_stop, front_none}
use Rattle.vp_pdf417.proofs.mode.Mode.front.Goals as goal

pub loop-left-preserved : goal.loop-left-preserved
loop-left-preserved c =
    let e = front_step c.args.self c.loop-left.left.now (grind arith) (sym c.goes_on.ensures ∙ c.if-goes_on.true) in
    record {
      front = omega (arith, e, c.loop-left.invariant.front);
      within = grind (arith);
    }

pub returns-else-goes_on-clause-front : goal.returns-else-goes_on-clause-front
returns-else-goes_on-clause-front c =
    omega (arith, front_stop c.args.self c.loop-left.left.now (sym c.goes_on.ensures ∙ c.if-goes_on.false), c.loop-left.invariant.front)

pub returns-after-loop-left-clause-front : goal.returns-after-loop-left-clause-front
returns-after-loop-left-clause-front c = omega (arith, front_none c.args.self c.loop-left.left.now (grind arith), c.loop-left.invariant.front)
