use Rattle.std.proofs.Common.{◌≡◌, ◌++◌, length}
use Rattle.vp_data_matrix.specs.Edifact.{fours}
use Rattle.vp_data_matrix.proofs.edifact.push_edifact.Given as goal

abbrev pub invariant-loop-left : goal.invariant-loop-left
invariant-loop-left l = l.words.items ++ fours l.left ≡ l.initial.words.items ++ fours l.src

abbrev pub decreases-loop-left : goal.decreases-loop-left
decreases-loop-left l = length l.left
