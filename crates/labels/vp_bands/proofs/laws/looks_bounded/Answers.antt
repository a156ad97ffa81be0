use Rattle.vp_bands.proofs.Bounds.{looks_bounded}
use Rattle.vp_bands.proofs.laws.looks_bounded.Goals as goal

pub returns : goal.returns
returns c = looks_bounded
