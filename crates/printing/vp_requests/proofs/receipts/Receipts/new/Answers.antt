use Rattle.std.proofs.Common.{refl}
use Rattle.vp_requests.proofs.BothKinds.{told_first}
use Rattle.vp_requests.proofs.receipts.Receipts.new.Goals as goal

pub returns : goal.returns
returns c = told_first _ c.new.ensures.stands c.new-2.ensures.stands refl (record { arrivals = c.new.ensures.nothing; units = c.new-2.ensures.nothing })
