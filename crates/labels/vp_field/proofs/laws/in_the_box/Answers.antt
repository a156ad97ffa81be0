use Rattle.vp_field.proofs.Boxed.{in_the_box}
use Rattle.vp_field.proofs.laws.in_the_box.Goals as goal

pub returns : goal.returns
returns c = in_the_box
