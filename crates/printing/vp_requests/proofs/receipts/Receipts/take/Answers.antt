use Rattle.std.proofs.Common.{arith}
use Rattle.vp_requests.proofs.BothKinds.{takes}
use Rattle.vp_requests.proofs.receipts.Receipts.take.Goals as goal

pub returns : goal.returns
returns c = λ bytes told t. takes c.args.self.now _ bytes told c.args.byte t c.requires
    (c.take.ensures bytes t.stands.arrivals t.stands.taken) (c.take-2.ensures bytes t.stands.units t.stands.taken) (grind (arith, c.saturating_add-self.ensures))
