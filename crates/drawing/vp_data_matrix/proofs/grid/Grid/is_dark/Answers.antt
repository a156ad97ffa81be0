use Rattle.std.proofs.Common.{◌∙◌, ap, sym}
use Rattle.vp_data_matrix.specs.Placement.{places}
use Rattle.vp_data_matrix.specs.Grids.{is_dark}
use Rattle.vp_data_matrix.proofs.Laid.{dark_is, module_is, module_fixed}
use Rattle.vp_data_matrix.proofs.grid.Grid.is_dark.Goals as goal

pub returns-then-is_fixed : goal.returns-then-is_fixed
returns-then-is_fixed c = λ codewords h. module_fixed c.args.self.now.matrix codewords c.args.row c.args.column (sym c.if-is_fixed.true ∙ c.is_fixed.ensures codewords (places c.args.self.now.matrix) h)

pub returns : goal.returns
returns c = λ codewords h.
    module_is c.args.self.now.matrix codewords c.args.row c.args.column c.is_dark.result
    (sym c.if-is_fixed.false ∙ c.is_fixed.ensures codewords (places c.args.self.now.matrix) h)
    (c.is_dark.ensures ∙ ap is_dark (h.cells_are c.args.row c.args.column c.requires.row c.requires.column) ∙ dark_is codewords (places c.args.self.now.matrix) c.args.row c.args.column)
