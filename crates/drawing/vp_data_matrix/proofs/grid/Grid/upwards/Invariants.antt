use Rattle.std.proofs.Common.{◌≡◌, ◌+◌, ◌*◌, ◌≤◌, List}
use Rattle.vp_data_matrix.specs.declared.grid.Place.{Place}
use Rattle.vp_data_matrix.specs.Placement.{upwards}
use Rattle.vp_data_matrix.specs.Grids.{IsLaid}
use Rattle.vp_data_matrix.proofs.grid.Grid.upwards.Given as goal

abbrev pub invariant-loop-n : goal.invariant-loop-n
invariant-loop-n l = record {
  matrix : l.self.matrix ≡ l.fn.self.matrix;
  count : l.self.laid ≤ l.fn.self.laid + 8 * l.n;
  laid : (laid : List Place) → IsLaid l.codewords laid l.fn.self → IsLaid l.codewords (upwards l.fn.self.matrix l.diagonal l.n laid) l.self;
}
