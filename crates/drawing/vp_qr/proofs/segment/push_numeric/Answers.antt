use Rattle.std.proofs.Common.{arith}
use Rattle.vp_qr.proofs.Parts.{part_written, room_left, three_more, two_last, one_last, no_digit}
use Rattle.vp_qr.proofs.Writing.{written_all}
use Rattle.vp_qr.proofs.Lengths.{length_numeric}
use Rattle.vp_qr.proofs.segment.push_numeric.Goals as goal

pub push_bits-requires-clause-room : goal.push_bits-requires-clause-room
push_bits-requires-clause-room c = room_left _ _ _ _ 10 c.loop-left.invariant c.requires (omega (arith, length_numeric c.loop-left.left.now))

pub loop-left-preserved : goal.loop-left-preserved
loop-left-preserved c = grind (arith, part_written, three_more)

pub push_bits-requires-in-len2-up-clause-room : goal.push_bits-requires-in-len2-up-clause-room
push_bits-requires-in-len2-up-clause-room c = room_left _ _ _ _ 7 c.loop-left.invariant c.requires (omega (arith, length_numeric c.loop-left.left.now))

pub returns-in-len2-up : goal.returns-in-len2-up
returns-in-len2-up c = grind (arith, two_last)

pub push_bits-requires-in-len1-clause-room : goal.push_bits-requires-in-len1-clause-room
push_bits-requires-in-len1-clause-room c = room_left _ _ _ _ 4 c.loop-left.invariant c.requires (omega (arith, length_numeric c.loop-left.left.now))

pub returns-in-len1 : goal.returns-in-len1
returns-in-len1 c = grind (arith, one_last)

pub returns-in-empty : goal.returns-in-empty
returns-in-empty c = written_all _ _ _ (no_digit c.loop-left.left.now (omega arith)) c.loop-left.invariant
