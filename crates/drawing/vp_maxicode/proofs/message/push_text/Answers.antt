use Rattle.std.proofs.Common.{arith, ap, sym, ◌∙◌, ◌-◌, length}
use Rattle.vp_maxicode.specs.Messages.{Message}
use Rattle.vp_maxicode.specs.Written.{written}
use Rattle.vp_maxicode.proofs.StepWords.{step_written, step_set, steps_none, steps_end}
use Rattle.vp_maxicode.proofs.message.push_text.Goals as goal

pub returns-then-is_empty-clause-written : goal.returns-then-is_empty-clause-written
returns-then-is_empty-clause-written c =
    ap (λ (m : Message). written c.loop.words m.words) (sym (steps_none (length c.args.src.now - c.loop.counter) c.loop.set c.loop.left.now (grind arith))) ∙ c.loop.invariant.written

pub returns-then-is_empty-clause-set : goal.returns-then-is_empty-clause-set
returns-then-is_empty-clause-set c =
    ap (λ (m : Message). m.set) (sym (steps_none (length c.args.src.now - c.loop.counter) c.loop.set c.loop.left.now (grind arith))) ∙ c.loop.invariant.set

pub loop-preserved : goal.loop-preserved
loop-preserved c =
    let n = length c.args.src.now in
    let left = c.loop.left.now in
    let s = c.push_step-behind in
    record {
      written = step_written n c.loop.counter c.loop.set s.result.0 s.result.1 left c.loop.words s.new.words _ (omega arith) (grind arith) s.ensures.set s.ensures.taken s.ensures.written c.loop.invariant.written;
      set = step_set n c.loop.counter c.loop.set s.result.0 s.result.1 left _ (omega arith) (grind arith) s.ensures.set s.ensures.taken c.loop.invariant.set;
    }

pub returns-clause-written : goal.returns-clause-written
returns-clause-written c =
    ap (λ (m : Message). written c.loop.words m.words) (sym (steps_end (length c.args.src.now) c.loop.counter c.loop.set c.loop.left.now (omega arith))) ∙ c.loop.invariant.written

pub returns-clause-set : goal.returns-clause-set
returns-clause-set c =
    ap (λ (m : Message). m.set) (sym (steps_end (length c.args.src.now) c.loop.counter c.loop.set c.loop.left.now (omega arith))) ∙ c.loop.invariant.set
