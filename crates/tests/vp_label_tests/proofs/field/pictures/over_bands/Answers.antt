use Rattle.vp_label_tests.proofs.field.pictures.over_bands.Goals as goal

pub loop-b-init : goal.loop-b-init
loop-b-init c = c.none-marks.ensures c.args.stored.now c.args.field.now.content

pub loop-b-preserved : goal.loop-b-preserved
loop-b-preserved c = c.kept-marks.ensures c.args.stored.now c.args.field.now.content c.paint_field.ensures.marks
