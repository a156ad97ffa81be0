use Rattle.std.proofs.Common.{◌≡◌, ◌++◌, drop}
use Rattle.vp_qr.specs.Blocks.{data_blocks, column}
use Rattle.vp_qr.proofs.interleave.push_column.Given as goal

abbrev pub invariant-loop-block : goal.invariant-loop-block
invariant-loop-block l = l.out.items ++ column l.at (drop l.block (data_blocks l.blocks l.words)) ≡ l.initial.out.items ++ column l.at (data_blocks l.blocks l.words)
