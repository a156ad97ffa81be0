use Rattle.std.proofs.Common.{arith, subst, sym, ◌<◌, ◌+◌, ◌-◌, ◌*◌, ◌/◌, ◌%◌}
use Rattle.vp_data_matrix.specs.declared.grid.Matrix.{Matrix}
use Rattle.vp_data_matrix.proofs.Regions.{region_within}
use Rattle.vp_data_matrix.proofs.symbol.is_dark.Goals as goal

pub is_dark-requires-clause-row : goal.is_dark-requires-clause-row
is_dark-requires-clause-row c =
    let h = c.args.size.region_rows in
    subst (λ (m : Matrix). c.args.row / (h + 2) * h + (c.args.row % (h + 2) - 1) < m.rows) (sym c.requires.matrix)
    (region_within c.args.row c.args.size.rows h (c.args.row % (h + 2) - 1) c.requires.sound.rows_whole c.requires.row (omega arith))

pub is_dark-requires-clause-column : goal.is_dark-requires-clause-column
is_dark-requires-clause-column c =
    let h = c.args.size.region_columns in
    subst (λ (m : Matrix). c.args.column / (h + 2) * h + (c.args.column % (h + 2) - 1) < m.columns) (sym c.requires.matrix)
    (region_within c.args.column c.args.size.columns h (c.args.column % (h + 2) - 1) c.requires.sound.columns_whole c.requires.column (omega arith))
