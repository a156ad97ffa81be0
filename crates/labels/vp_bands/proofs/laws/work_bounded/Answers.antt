use Rattle.vp_bands.proofs.Work.{work_bounded}
use Rattle.vp_bands.proofs.laws.work_bounded.Goals as goal

pub returns : goal.returns
returns c = work_bounded
