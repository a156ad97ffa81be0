use Rattle.std.proofs.Common.{◌≡◌, ◌++◌, length}
use Rattle.vp_data_matrix.specs.Ascii.{ascii}
use Rattle.vp_data_matrix.proofs.ascii.push_ascii.Given as goal

abbrev pub invariant-loop-left : goal.invariant-loop-left
invariant-loop-left l = l.words.items ++ ascii l.left ≡ l.initial.words.items ++ ascii l.src

abbrev pub decreases-loop-left : goal.decreases-loop-left
decreases-loop-left l = length l.left
