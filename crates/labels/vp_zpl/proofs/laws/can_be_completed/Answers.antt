use Rattle.vp_zpl.proofs.Completion.{completed}
use Rattle.vp_zpl.proofs.laws.can_be_completed.Goals as goal

pub returns : goal.returns
returns c reading bytes = completed reading bytes
