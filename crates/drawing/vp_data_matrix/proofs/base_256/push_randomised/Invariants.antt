use Rattle.std.proofs.Common.{◌≡◌, ◌+◌, ◌++◌, drop, length}
use Rattle.vp_data_matrix.specs.Base256.{randomised_from}
use Rattle.vp_data_matrix.proofs.base_256.push_randomised.Given as goal

abbrev pub invariant-loop-byte : goal.invariant-loop-byte
invariant-loop-byte l = record {
  written : l.words.items ++ randomised_from (length l.words.items + 1) (drop l.byte-index l.bytes) ≡ l.initial.words.items ++ randomised_from (length l.initial.words.items + 1) l.bytes;
  count : length l.words.items ≡ length l.initial.words.items + l.byte-index;
}
