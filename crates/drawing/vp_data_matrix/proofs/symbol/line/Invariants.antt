use Rattle.std.proofs.Common.{◌≡◌, ℕ, ◌<◌, ◌≤◌, List, length, false}
use Rattle.vp_dots.specs.Dots.{dot}
use Rattle.vp_data_matrix.specs.Placement.{places}
use Rattle.vp_data_matrix.specs.Modules.{matrix_of, matrix_module, symbol_module}
use Rattle.vp_data_matrix.specs.Grids.{IsLaid}
use Rattle.vp_data_matrix.proofs.symbol.line.Given as goal

abbrev pub invariant-loop-column : goal.invariant-loop-column
invariant-loop-column l = record {
  long : length l.line ≡ 18;
  made : (all : List ℕ) → IsLaid all (places (matrix_of l.size)) l.grid → (j : ℕ) → j < l.column → dot l.line j ≡ symbol_module l.size (matrix_module (matrix_of l.size) all) l.row j;
  white : (j : ℕ) → l.column ≤ j → dot l.line j ≡ false;
}
