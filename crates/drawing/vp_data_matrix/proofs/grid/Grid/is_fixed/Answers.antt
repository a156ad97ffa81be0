use Rattle.std.proofs.Common.{arith, ◌∙◌, ◌-◌, ap, sym}
use Rattle.vp_data_matrix.specs.Grids.{is_free}
use Rattle.vp_data_matrix.proofs.Laid.{free_is, taken_from, free_from, fixed_not, fixed_here}
use Rattle.vp_data_matrix.proofs.grid.Grid.is_fixed.Goals as goal

pub returns-then-not-is_free : goal.returns-then-not-is_free
returns-then-not-is_free c = λ codewords laid h.
    let m = c.args.self.now.matrix in
    fixed_not m laid c.args.row c.args.column
    (taken_from _ (sym c.if-not-is_free.true ∙ c.is_free.ensures ∙ ap is_free (h.cells_are (m.rows - 1) (m.columns - 1) (omega arith) (omega arith)) ∙ free_is codewords laid (m.rows - 1) (m.columns - 1)))

pub returns : goal.returns
returns c = λ codewords laid h.
    let m = c.args.self.now.matrix in
    c.is_fixed_place.ensures
    ∙ fixed_here m laid c.args.row c.args.column
    (free_from _ (sym c.if-not-is_free.false ∙ c.is_free.ensures ∙ ap is_free (h.cells_are (m.rows - 1) (m.columns - 1) (omega arith) (omega arith)) ∙ free_is codewords laid (m.rows - 1) (m.columns - 1)))
