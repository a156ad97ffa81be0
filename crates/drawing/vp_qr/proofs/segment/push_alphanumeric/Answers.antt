use Rattle.std.proofs.Common.{arith}
use Rattle.vp_qr.proofs.Parts.{part_written, room_left, two_more, character_last, no_character}
use Rattle.vp_qr.proofs.Writing.{written_all}
use Rattle.vp_qr.proofs.Lengths.{length_alphanumeric}
use Rattle.vp_qr.proofs.segment.push_alphanumeric.Goals as goal

pub push_bits-requires-clause-room : goal.push_bits-requires-clause-room
push_bits-requires-clause-room c = room_left _ _ _ _ 11 c.loop-left.invariant c.requires (omega (arith, length_alphanumeric c.loop-left.left.now))

pub loop-left-preserved : goal.loop-left-preserved
loop-left-preserved c = grind (arith, part_written, two_more)

pub push_bits-requires-in-len1-up-clause-room : goal.push_bits-requires-in-len1-up-clause-room
push_bits-requires-in-len1-up-clause-room c = room_left _ _ _ _ 6 c.loop-left.invariant c.requires (omega (arith, length_alphanumeric c.loop-left.left.now))

pub returns-in-len1-up : goal.returns-in-len1-up
returns-in-len1-up c = grind (arith, character_last)

pub returns-in_default-left : goal.returns-in_default-left
returns-in_default-left c = written_all _ _ _ (no_character c.loop-left.left.now (omega arith)) c.loop-left.invariant
