use Rattle.vp_field.proofs.Folds.{stroke_after_stroke}
use Rattle.vp_field.proofs.laws.stroke_after_stroke.Goals as goal

pub returns : goal.returns
returns c = stroke_after_stroke
