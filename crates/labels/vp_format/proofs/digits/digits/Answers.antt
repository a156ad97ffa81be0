use Rattle.std.proofs.Common.{◌+◌, arith}
use Rattle.vp_format.specs.Cursors.{ReadsOn}
use Rattle.vp_format.proofs.Quick.{digits_read, reads_on}
use Rattle.vp_format.proofs.digits.digits.Goals as goal
use Rattle.vp_format.proofs.digits.digits.Goals.{After-put_values}

read : (c : After-put_values) → ReadsOn c.args.width c.args.bytes.now c.args.places.now c.args.from c.args.first c.put_values.new.places (c.loop-x.x + c.min-count.result) (c.loop-x.at + c.min-count.result)
read c =
    reads_on _ _ _ c.loop-x.places _ _ _ c.loop-x.x c.loop-x.at _ _ c.loop-x.invariant
    (digits_read c.args.width c.args.bytes.now c.loop-x.places c.put_values.new.places c.loop-x.x c.loop-x.at c.min-count.result c.put_values.ensures.len c.put_values.ensures.kept (omega arith) (omega arith)
    (λ i l. c.digits_in.ensures.digits i (omega arith)) (λ i l. c.put_values.ensures.put i (omega arith) (c.digits_in.ensures.digits i (omega arith))))

pub returns-then-count-lt-LANES : goal.returns-then-count-lt-LANES
returns-then-count-lt-LANES c = read (goal.at.returns-then-count-lt-LANES c).After-put_values

pub loop-x-preserved : goal.loop-x-preserved
loop-x-preserved c = read (goal.at.loop-x-preserved c).After-put_values
