use Rattle.std.proofs.Common.{◌≡◌, ℕ, ◌<◌, length, get_or}
use Rattle.vp_data_matrix.specs.Blocks.{every}
use Rattle.vp_data_matrix.proofs.block.block_of.Given as goal

abbrev pub invariant-loop-k : goal.invariant-loop-k
invariant-loop-k l = record {
  made : l.block.items ≡ every l.words l.b l.size.blocks l.k;
  count : length l.block.items ≡ l.k;
  elements : (j : ℕ) → get_or l.block.items j 0 < 256;
}
