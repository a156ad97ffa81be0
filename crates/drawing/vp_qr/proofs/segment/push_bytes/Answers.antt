use Rattle.std.proofs.Common.{arith}
use Rattle.vp_qr.proofs.Parts.{part_written, room_left, byte_more, no_byte}
use Rattle.vp_qr.proofs.Writing.{written_all}
use Rattle.vp_qr.proofs.Lengths.{length_byte}
use Rattle.vp_qr.proofs.segment.push_bytes.Goals as goal

pub push_bits-requires-clause-room : goal.push_bits-requires-clause-room
push_bits-requires-clause-room c = room_left _ _ _ _ 8 c.loop-left.invariant c.requires (omega (arith, length_byte c.loop-left.left.now))

pub loop-left-preserved : goal.loop-left-preserved
loop-left-preserved c = grind (arith, byte_more, part_written)

pub returns : goal.returns
returns c = written_all _ _ _ (no_byte c.loop-left.left.now (omega arith)) c.loop-left.invariant
