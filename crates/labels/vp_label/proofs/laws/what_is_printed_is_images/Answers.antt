use Rattle.vp_label.proofs.Images.{all_are, all_of}
use Rattle.vp_label.proofs.laws.what_is_printed_is_images.Goals as goal

pub returns-clause-images : goal.returns-clause-images
returns-clause-images c = all_are

pub returns-clause-sizes : goal.returns-clause-sizes
returns-clause-sizes c = λ sheets before. all_of c.in_range.ensures.settings sheets before
