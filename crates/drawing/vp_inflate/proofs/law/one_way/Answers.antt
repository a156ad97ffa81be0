use Rattle.vp_inflate.proofs.Leading.{one_way}
use Rattle.vp_inflate.proofs.law.one_way.Goals as goal

pub returns : goal.returns
returns c = one_way
