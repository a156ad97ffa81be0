use Rattle.std.proofs.Common.{◌≡◌, ◌-◌, ◌++◌}
use Rattle.vp_qr.specs.Blocks.{data_blocks, columns}
use Rattle.vp_qr.proofs.interleave.push_columns.Given as goal

abbrev pub invariant-loop-at : goal.invariant-loop-at
invariant-loop-at l = l.out.items ++ columns l.at (l.n - l.at) (data_blocks l.blocks l.words) ≡ l.initial.out.items ++ columns 0 l.n (data_blocks l.blocks l.words)
