use Rattle.vp_label_tests.proofs.field.Painter.paint.Goals as goal

pub paint_field-requires-clause-marks : goal.paint_field-requires-clause-marks
paint_field-requires-clause-marks c = c.none.ensures c.args.stored.now c.args.field.now.content
