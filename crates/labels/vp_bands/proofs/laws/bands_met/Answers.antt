use Rattle.vp_bands.proofs.Bounds.{bands_met}
use Rattle.vp_bands.proofs.laws.bands_met.Goals as goal

pub returns : goal.returns
returns c = bands_met
