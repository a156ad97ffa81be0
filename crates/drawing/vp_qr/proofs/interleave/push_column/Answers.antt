use Rattle.std.proofs.Common.{◌≤◌, ◌+◌, arith}
use Rattle.arrayvec.specs.ArrayVec.{array_vec_len}
use Rattle.vp_qr.specs.Blocks.{data_blocks, column}
use Rattle.vp_qr.proofs.Parts.{part_written, room_for_one}
use Rattle.vp_qr.proofs.Writing.{written_all}
use Rattle.vp_qr.proofs.Interleaving.{block_fits, column_has, column_lacks, column_end, length-data_blocks}
use Rattle.vp_qr.proofs.interleave.push_column.Goals as goal

pub bounds-words-start : goal.bounds-words-start
bounds-words-start c = omega (arith, block_fits c.args.blocks c.loop-block.block c.loop-block-test.true, c.length.ensures, c.start.ensures)

pub push-requires : goal.push-requires
push-requires c =
    let room : array_vec_len c.loop-block.out + 1 ≤ 346 =
    room_for_one c.loop-block.out.items _ _ c.args.out.now.items (column c.args.at (data_blocks c.args.blocks c.args.words.now)) _ 346 c.requires.room c.loop-block.invariant
    (column_has c.args.blocks c.args.words.now c.loop-block.block c.args.at c.length.result c.requires.words c.loop-block-test.true c.length.ensures c.if-at-length.false) in
    (omega arith, omega arith)

pub loop-block-preserved-then-at-length : goal.loop-block-preserved-then-at-length
loop-block-preserved-then-at-length c = grind (arith, column_lacks)

pub loop-block-preserved : goal.loop-block-preserved
loop-block-preserved c = grind (arith, column_has, part_written)

pub returns : goal.returns
returns c = written_all c.loop-block.out.items _ _ (column_end c.args.at c.loop-block.block (data_blocks c.args.blocks c.args.words.now) (omega (arith, length-data_blocks c.args.blocks c.args.words.now))) c.loop-block.invariant
