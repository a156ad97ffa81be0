use Rattle.std.proofs.Common.{arith}
use Rattle.vp_format.proofs.Passed.{plain_on, passes_on}
use Rattle.vp_format.proofs.passing.pass_digits.Goals as goal

pub loop-x-preserved : goal.loop-x-preserved
loop-x-preserved c = passes_on _ _ _ _ _ _ _ c.loop-x.invariant (plain_on c.args.bytes.now c.loop-x.x c.loop-x.at 16 (omega arith) (λ k l. c.digits_in-count.ensures.digits k (omega arith)))

pub returns-then-count-lt-LANES : goal.returns-then-count-lt-LANES
returns-then-count-lt-LANES c = passes_on _ _ _ _ _ _ _ c.loop-x.invariant (plain_on c.args.bytes.now c.loop-x.x c.loop-x.at c.digits_in-count.result (omega arith) c.digits_in-count.ensures.digits)
