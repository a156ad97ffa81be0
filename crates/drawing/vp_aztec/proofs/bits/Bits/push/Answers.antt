use Rattle.std.proofs.Common.{arith}
use Rattle.vp_aztec.proofs.Codes.{bit_written}
use Rattle.vp_aztec.proofs.bits.Bits.push.Goals as goal

pub loop-k-preserved : goal.loop-k-preserved
loop-k-preserved c = record {
  full = c.loop-k.invariant.full;
  made = bit_written c.loop-k.self-inside.items.items c.push.new.self.items _ c.args.code.0 c.loop-k.k c.args.code.1 _ (omega arith) c.push.ensures.items c.bit.ensures c.loop-k.invariant.made;
  long = omega (arith, c.push.ensures.len, c.loop-k.invariant.long);
}
