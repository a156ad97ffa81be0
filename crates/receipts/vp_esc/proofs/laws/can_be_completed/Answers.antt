use Rattle.vp_esc.proofs.Ends.{completes_lem}
use Rattle.vp_esc.proofs.laws.can_be_completed.Goals as goal

pub returns : goal.returns
returns c reading bytes f = completes_lem reading bytes f
