use Rattle.std.proofs.Common.{length, arith}
use Rattle.vp_qr.proofs.Lengths.{first_place}
use Rattle.vp_qr.proofs.segment.place_of.Goals as goal

pub returns-then-c-byte-clause-place : goal.returns-then-c-byte-clause-place
returns-then-c-byte-clause-place c = grind (arith, first_place c.args.among.now c.args.byte c.loop-i.i c.loop-i.auto.i-end c.loop-i.invariant)

pub returns-clause-place : goal.returns-clause-place
returns-clause-place c = grind (arith, first_place c.args.among.now c.args.byte (length c.args.among.now))
