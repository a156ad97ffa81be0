use Rattle.std.proofs.Common.{arith, length-append}
use Rattle.vp_qr.proofs.Interleaving.{length-data_columns, length-check_columns, both_parts}
use Rattle.vp_qr.proofs.interleave.interleaved.Goals as goal

pub push_columns-requires-clause-room : goal.push_columns-requires-clause-room
push_columns-requires-clause-room c = grind (arith, length-data_columns)

pub push_columns-requires-2-clause-room : goal.push_columns-requires-2-clause-room
push_columns-requires-2-clause-room c = grind (arith, length-check_columns, length-data_columns)

pub returns-clause-codewords : goal.returns-clause-codewords
returns-clause-codewords c = grind (arith, both_parts c.blocks-blocks.result c.args.words.now c.as_slice.result.now c.new-out.result.items c.push_columns.new.out.items c.push_columns-2.new.out.items c.new-out.ensures)

pub returns-clause-count : goal.returns-clause-count
returns-clause-count c = grind (arith, length-append, length-check_columns, length-data_columns)
