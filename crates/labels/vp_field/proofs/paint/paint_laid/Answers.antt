use Rattle.vp_field.proofs.paint.paint_laid.Goals as goal

pub returns-in-Across-clause-counted : goal.returns-in-Across-clause-counted
returns-in-Across-clause-counted g c = λ x k low e. c.paint_across.ensures.counted
