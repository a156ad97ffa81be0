use Rattle.std.proofs.Common.{◌+◌, ◌*◌, ◌∙◌, arith, length-set}
use Rattle.vp_dots.proofs.Squares.{step_more}
use Rattle.vp_dots.proofs.square.step.Goals as goal

pub loop-i-init : goal.loop-i-init
loop-i-init c = record { count = omega arith; done = record { dots_are = λ x y h k. absurd (omega arith) } }

pub loop-i-preserved : goal.loop-i-preserved
loop-i-preserved c =
    let i = c.loop-i.i in
    let a = c.left_parts.result in
    record {
      count = length-set _ (2 * i + 1) c.right_parts.result ∙ length-set c.loop-i.new (2 * i) a ∙ c.loop-i.invariant.count;
      done = step_more c.args.wide c.args.left i a c.right_parts.result c.args.rows.now c.loop-i.new (omega arith) c.loop-i.invariant.count c.left_parts.ensures c.right_parts.ensures c.loop-i.invariant.done;
    }

pub returns : goal.returns
returns c = λ x y h k. c.loop-i.invariant.done.dots_are x y h (omega arith)
