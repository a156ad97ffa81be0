use Rattle.std.proofs.Common.{◌≡◌, ◌+◌, ◌*◌, ◌≤◌, length}
use Rattle.vp_data_matrix.specs.Edifact.{fours}
use Rattle.vp_data_matrix.proofs.edifact.edifact_length.Given as goal

abbrev pub invariant-loop-left : goal.invariant-loop-left
invariant-loop-left l = record {
  counted : l.count + length (fours l.left) ≡ 1 + length (fours l.src);
  most : l.count + 6 * length l.left ≤ 1 + 6 * length l.src;
}

abbrev pub decreases-loop-left : goal.decreases-loop-left
decreases-loop-left l = length l.left
