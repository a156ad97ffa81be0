use Rattle.std.proofs.Common.{get_or, false}
use Rattle.vp_qr.proofs.Writing.{number_step, number_end, bit_small, below_doubled}
use Rattle.vp_qr.proofs.string.byte_of.Goals as goal

pub loop-bit-preserved : goal.loop-bit-preserved
loop-bit-preserved c = (
  number_step c.args.eight.now c.loop-bit.number c.loop-bit.bit-index c.one.result c.loop-bit-test.true c.one.ensures c.loop-bit.invariant.0,
  below_doubled c.loop-bit.number c.loop-bit.bit-index c.one.result c.loop-bit.invariant.1
      (bit_small (get_or c.args.eight.now c.loop-bit.bit-index false) c.one.result c.one.ensures),
)

pub returns : goal.returns
returns c = number_end c.args.eight.now c.loop-bit.number c.loop-bit.bit-index c.loop-bit-test.false c.loop-bit.invariant.0
