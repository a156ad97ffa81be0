use Rattle.vp_field.specs.Fields.{AreMarksOf}
use Rattle.vp_label_tests.proofs.field.pictures.over_bands.Given as goal

-- the marks are of the field's picture
abbrev pub invariant-loop-b : goal.invariant-loop-b
invariant-loop-b l = AreMarksOf l.stored l.field.content l.marks
