use Rattle.std.proofs.Common.{arith, ap, length, ◌-◌}
use Rattle.vp_aztec.proofs.StuffWords.{count_more, words_past, words_end}
use Rattle.vp_aztec.proofs.stuffing.count.Goals as goal

pub returns-then-i-bits-clause-count : goal.returns-then-i-bits-clause-count
returns-then-i-bits-clause-count c =
    omega (arith, ap length (words_past (length c.args.bits.now - c.loop.counter) c.args.w c.args.bits.now c.loop.i (omega arith)), c.loop.invariant.made)

pub loop-preserved : goal.loop-preserved
loop-preserved c = record {
  made = count_more (length c.args.bits.now) c.loop.counter c.args.w c.args.bits.now c.loop.i c.word-taken.result.1 _ c.loop.count (omega arith) (omega arith) c.word-taken.ensures.taken c.loop.invariant.made;
  few = omega (arith, c.loop.invariant.few);
  place = omega (arith, c.word-taken.ensures.few);
}

pub returns-clause-count : goal.returns-clause-count
returns-clause-count c =
    omega (arith, ap length (words_end (length c.args.bits.now) c.loop.counter c.args.w c.args.bits.now c.loop.i (omega arith)), c.loop.invariant.made)
