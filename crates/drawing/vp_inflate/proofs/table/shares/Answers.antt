use Rattle.std.proofs.Common.{arith}
use Rattle.vp_inflate.proofs.TableWords.{shares_more, shares_none}
use Rattle.vp_inflate.proofs.table.shares.Goals as goal

pub overflow_add-all : goal.overflow_add-all
overflow_add-all c = omega (arith, c.loop-bits.invariant.few, c.share-all.ensures.most, c.requires)

pub loop-bits-preserved : goal.loop-bits-preserved
loop-bits-preserved c = record {
  sum = omega (arith, c.loop-bits.invariant.sum, c.share-all.ensures.share, shares_more c.args.lengths.now c.loop-bits.bits-index (omega arith));
  few = omega (arith, c.loop-bits.invariant.few, c.share-all.ensures.most);
}

pub returns : goal.returns
returns c = omega (arith, c.loop-bits.invariant.sum, shares_none c.args.lengths.now c.loop-bits.bits-index (omega arith))
