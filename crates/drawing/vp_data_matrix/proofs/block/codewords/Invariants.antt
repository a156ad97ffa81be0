use Rattle.std.proofs.Common.{◌≡◌, ◌+◌, ◌++◌, length}
use Rattle.vp_data_matrix.specs.Blocks.{check_words}
use Rattle.vp_data_matrix.proofs.block.codewords.Given as goal

abbrev pub invariant-loop-k : goal.invariant-loop-k
invariant-loop-k l = record {
  made : l.all.items ≡ l.words ++ check_words l.size l.words l.k;
  count : length l.all.items ≡ length l.words + l.k;
}
