use Rattle.std.proofs.Common.{◌≡◌, ℕ, ◌<◌, ◌++◌, length, get_or}
use Rattle.vp_data_matrix.specs.Triples.{pairs}
use Rattle.vp_data_matrix.proofs.triple.push_pairs.Given as goal

abbrev pub invariant-loop-left : goal.invariant-loop-left
invariant-loop-left l = record {
  written : l.words.items ++ pairs l.left ≡ l.initial.words.items ++ pairs l.values;
  small : (k : ℕ) → get_or l.left k 0 < 40;
}

abbrev pub decreases-loop-left : goal.decreases-loop-left
decreases-loop-left l = length l.left
