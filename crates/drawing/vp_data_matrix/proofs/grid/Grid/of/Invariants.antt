use Rattle.std.proofs.Common.{◌≡◌, ◌*◌, ◌≤◌}
use Rattle.vp_data_matrix.specs.Placement.{diagonals}
use Rattle.vp_data_matrix.specs.Grids.{IsLaid}
use Rattle.vp_data_matrix.proofs.grid.Grid.of.Given as goal

abbrev pub invariant-loop-n : goal.invariant-loop-n
invariant-loop-n l = record {
  matrix : l.grid.matrix ≡ l.fn.matrix;
  count : l.grid.laid ≤ 4000 * l.n;
  laid : IsLaid l.codewords (diagonals l.fn.matrix l.n) l.grid;
}
