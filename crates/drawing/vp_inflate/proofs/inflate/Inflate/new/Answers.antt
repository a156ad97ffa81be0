use Rattle.vp_inflate.proofs.Leading.{stands_first}
use Rattle.vp_inflate.proofs.inflate.Inflate.new.Goals as goal

pub returns : goal.returns
returns c = stands_first _ c.new.ensures.stand c.new.ensures.held
