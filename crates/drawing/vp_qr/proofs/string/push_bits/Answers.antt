use Rattle.std.proofs.Common.{arith}
use Rattle.std.proofs.lemmas.Nat.Bits.{shr_and_one}
use Rattle.vp_qr.proofs.Writing.{written_more, written_all, bits_more, bits_none}
use Rattle.vp_qr.proofs.string.push_bits.Goals as goal

pub loop-k-preserved : goal.loop-k-preserved
loop-k-preserved c = grind (arith, bits_more, shr_and_one, written_more)

pub returns-clause-bits : goal.returns-clause-bits
returns-clause-bits c = written_all c.loop-k.string.items _ _ (bits_none c.args.n c.loop-k.k c.args.value c.loop-k-test.false) c.loop-k.invariant.0
