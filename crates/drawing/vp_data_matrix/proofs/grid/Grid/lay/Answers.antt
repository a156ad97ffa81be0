use Rattle.std.proofs.Common.{arith, refl}
use Rattle.vp_data_matrix.proofs.Laid.{laid_more, row_apart, column_apart, row_set}
use Rattle.vp_data_matrix.proofs.grid.Grid.lay.Goals as goal

pub returns-then-place-self-clause-laid : goal.returns-then-place-self-clause-laid
returns-then-place-self-clause-laid c = λ laid h.
    laid_more c.args.codewords.now laid c.args.place c.args.self.now _ c.bit_cell-cell.result refl refl c.bit_cell-cell.ensures (λ i j hi hj. row_apart c.args.place i j _ _ (omega arith)) h

pub returns-then-place-self-2-clause-laid : goal.returns-then-place-self-2-clause-laid
returns-then-place-self-2-clause-laid c = λ laid h.
    laid_more c.args.codewords.now laid c.args.place c.args.self.now _ c.bit_cell-cell.result refl refl c.bit_cell-cell.ensures (λ i j hi hj. column_apart c.args.place i j _ _ (omega arith)) h

pub returns-clause-laid : goal.returns-clause-laid
returns-clause-laid c = λ laid h.
    laid_more c.args.codewords.now laid c.args.place c.args.self.now _ c.bit_cell-cell.result refl refl c.bit_cell-cell.ensures
    (λ i j hi hj. row_set c.args.self.now.cells c.put.new.row c.args.place.row c.args.place.column i j c.bit_cell-cell.result (omega arith) c.put.ensures) h
