use Rattle.std.proofs.Common.{arith, ap, sym, ◌∙◌, ◌-◌, length}
use Rattle.vp_aztec.specs.Messages.{step}
use Rattle.vp_aztec.specs.Written.{written}
use Rattle.vp_aztec.proofs.Codes.{front_written}
use Rattle.vp_aztec.proofs.StepWords.{steps_step, steps_none, steps_end}
use Rattle.vp_aztec.proofs.message.message.Goals as goal

pub returns-then-is_empty : goal.returns-then-is_empty
returns-then-is_empty c =
    ap (written c.loop.bits) (sym (steps_none (length c.args.src.now - c.loop.counter) c.loop.mode c.loop.left.now (grind arith))) ∙ c.loop.invariant

pub loop-preserved : goal.loop-preserved
loop-preserved c =
    let left = c.loop.left.now in
    let mode = c.loop.mode in
    front_written c.loop.bits c.push_step-behind.new.bits _ (step mode left).codes _ _ c.push_step-behind.ensures.written
    (steps_step (length c.args.src.now) c.loop.counter mode c.push_step-behind.result.0 c.push_step-behind.result.1 left (omega arith) (grind arith) c.push_step-behind.ensures.mode c.push_step-behind.ensures.taken)
    c.loop.invariant

pub returns : goal.returns
returns c =
    ap (written c.loop.bits) (sym (steps_end (length c.args.src.now) c.loop.counter c.loop.mode c.loop.left.now (omega arith))) ∙ c.loop.invariant
