use Rattle.vp_bands.proofs.walk.paint_met.Goals.{then-begins, else-begins}
use Rattle.vp_bands.proofs.walk.paint_met.Goals as goal

pub paint_field-requires-clause-marks : goal.paint_field-requires-clause-marks
paint_field-requires-clause-marks g c = elim c.if-begins.branch [
  | then-begins w ↦ rw w.marks-is (w.none.ensures c.args.stored.now c.args.field.now.content)
  | else-begins w ↦ rw w.marks-is (c.requires.marked w.if-begins.false)
]
