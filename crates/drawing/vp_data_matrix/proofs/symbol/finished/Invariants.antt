use Rattle.std.proofs.Common.{◌≡◌, [], ℕ, ◌<◌, length, get_or}
use Rattle.vp_dots.specs.Dots.{dot}
use Rattle.vp_data_matrix.specs.Modules.{matrix_of, matrix_module, symbol_module}
use Rattle.vp_data_matrix.proofs.symbol.finished.Given as goal

abbrev pub invariant-loop-row : goal.invariant-loop-row
invariant-loop-row l = record {
  long : length l.rows ≡ 144;
  made : (i j : ℕ) → i < l.row → j < l.size.columns → dot (get_or l.rows i []) j ≡ symbol_module l.size (matrix_module (matrix_of l.size) l.all) i j;
}
