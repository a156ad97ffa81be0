use Rattle.std.proofs.Common.{◌≡◌, ◌+◌, List, take}
use Rattle.vp_data_matrix.specs.declared.grid.Place.{Place}
use Rattle.vp_data_matrix.specs.Placement.{laid_on}
use Rattle.vp_data_matrix.specs.Grids.{IsLaid}
use Rattle.vp_data_matrix.proofs.grid.Grid.lay_all.Given as goal

abbrev pub invariant-loop-place : goal.invariant-loop-place
invariant-loop-place l = record {
  matrix : l.self.matrix ≡ l.fn.self.matrix;
  count : l.self.laid ≡ l.fn.self.laid + l.place-index;
  laid : (laid : List Place) → IsLaid l.codewords laid l.fn.self → IsLaid l.codewords (laid_on (take l.place-index l.places) laid) l.self;
}
