use Rattle.std.proofs.Common.{arith, ◌∙◌, ap, List, subst, sym}
use Rattle.vp_data_matrix.specs.declared.grid.Place.{Place}
use Rattle.vp_data_matrix.specs.Grids.{IsLaid, is_free}
use Rattle.vp_data_matrix.specs.Placement.{laid_on}
use Rattle.vp_data_matrix.proofs.Laid.{step_taken, step_free, free_is, taken_from, free_from}
use Rattle.vp_data_matrix.proofs.grid.Grid.step.Goals as goal

pub returns-then-not-is_free-clause-laid : goal.returns-then-not-is_free-clause-laid
returns-then-not-is_free-clause-laid c = λ (laid : List Place) h.
    subst (λ (l : List Place). IsLaid c.args.codewords.now l c.args.self.now)
    (sym (step_taken c.args.self.now.matrix c.args.row c.args.column laid (taken_from _ (sym c.if-not-is_free.true ∙ c.is_free.ensures ∙ ap is_free (h.cells_are c.args.row c.args.column (omega arith) (omega arith)) ∙ free_is c.args.codewords.now laid c.args.row c.args.column)))) h

pub returns-clause-laid : goal.returns-clause-laid
returns-clause-laid c = λ (laid : List Place) h.
    subst (λ (l : List Place). IsLaid c.args.codewords.now l c.lay_all.new.self)
    (ap (λ (p : List Place). laid_on p laid) c.codeword_at-places.ensures
    ∙ sym (step_free c.args.self.now.matrix c.args.row c.args.column laid (omega arith) (omega arith)
    (free_from _ (sym c.if-not-is_free.false ∙ c.is_free.ensures ∙ ap is_free (h.cells_are c.args.row c.args.column (omega arith) (omega arith)) ∙ free_is c.args.codewords.now laid c.args.row c.args.column))))
    (c.lay_all.ensures.laid laid h)
