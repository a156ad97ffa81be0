use Rattle.std.proofs.Common.{◌≡◌, ◌+◌, ◌*◌, ◌≤◌, length}
use Rattle.vp_data_matrix.specs.Ascii.{ascii}
use Rattle.vp_data_matrix.proofs.ascii.ascii_length.Given as goal

abbrev pub invariant-loop-left : goal.invariant-loop-left
invariant-loop-left l = record {
  counted : l.count + length (ascii l.left) ≡ length (ascii l.src);
  most : l.count + 2 * length l.left ≤ 2 * length l.src;
}

abbrev pub decreases-loop-left : goal.decreases-loop-left
decreases-loop-left l = length l.left
