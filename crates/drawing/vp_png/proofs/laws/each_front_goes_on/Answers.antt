use Rattle.vp_png.proofs.Fronts.{goes_on}
use Rattle.vp_png.proofs.laws.each_front_goes_on.Goals as goal

pub returns : goal.returns
returns c = goes_on
