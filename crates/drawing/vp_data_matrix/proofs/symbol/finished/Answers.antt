use Rattle.std.proofs.Common.{arith, ◌∙◌, subst, ℕ, length-set}
use Rattle.vp_data_matrix.specs.declared.grid.Matrix.{Matrix}
use Rattle.vp_data_matrix.specs.Placement.{places}
use Rattle.vp_data_matrix.specs.Grids.{IsLaid}
use Rattle.vp_data_matrix.specs.Modules.{matrix_of, matrix_module, symbol_module}
use Rattle.vp_data_matrix.proofs.Regions.{row_made}
use Rattle.vp_data_matrix.proofs.symbol.finished.Goals as goal

pub loop-row-preserved : goal.loop-row-preserved
loop-row-preserved c = record {
  long = length-set c.loop-row.rows c.loop-row.row c.line.result ∙ c.loop-row.invariant.long;
  made = row_made (λ (i j : ℕ). symbol_module c.args.size (matrix_module (matrix_of c.args.size) c.args.all.now) i j) c.loop-row.rows c.loop-row.row c.args.size.columns c.line.result
      (omega (arith, c.loop-row.invariant.long, c.requires.rows))
      (c.line.ensures c.args.all.now (subst (λ (m : Matrix). IsLaid c.args.all.now (places m) c.of-grid.result) c.matrix_of.ensures.matrix c.of-grid.ensures.laid))
      c.loop-row.invariant.made;
}
