use Rattle.std.proofs.Common.{arith}
use Rattle.std.proofs.Common.{refl}
use Rattle.vp_qr.specs.Blocks.{data_blocks, columns}
use Rattle.vp_qr.proofs.Parts.{part_written, room_for}
use Rattle.vp_qr.proofs.Writing.{written_all}
use Rattle.vp_qr.proofs.Interleaving.{columns_more, columns_none}
use Rattle.vp_qr.proofs.interleave.push_columns.Goals as goal

pub push_column-requires-clause-room : goal.push_column-requires-clause-room
push_column-requires-clause-room c =
    room_for c.loop-at.out.items _ _ _ c.args.out.now.items (columns 0 c.args.n (data_blocks c.args.blocks c.args.words.now)) _ 346 c.requires.room c.loop-at.invariant
    (columns_more c.loop-at.at c.args.n (data_blocks c.args.blocks c.args.words.now) c.loop-at-test.true) refl

pub loop-at-preserved : goal.loop-at-preserved
loop-at-preserved c = grind (arith, columns_more, part_written)

pub returns : goal.returns
returns c = written_all c.loop-at.out.items _ _ (columns_none c.loop-at.at c.args.n (data_blocks c.args.blocks c.args.words.now) c.loop-at-test.false) c.loop-at.invariant
