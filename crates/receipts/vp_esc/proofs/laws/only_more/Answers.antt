use Rattle.vp_esc.proofs.Growth.{only_more_lem}
use Rattle.vp_esc.proofs.laws.only_more.Goals as goal

pub returns : goal.returns
returns c reading bytes more = only_more_lem reading bytes more
