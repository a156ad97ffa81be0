use Rattle.std.proofs.Common.{length-drop, arith}
use Rattle.vp_receipt.proofs.receipt.Receipt.put.Goals as goal

pub returns-clause-stands : goal.returns-clause-stands
returns-clause-stands g c = grind (arith, length-drop, c.self.view_is, c.put.ensures.shows, c.put.ensures.rest)
