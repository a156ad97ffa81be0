use Rattle.vp_receipt.proofs.Work.{adds_at_most}
use Rattle.vp_receipt.proofs.laws.an_item_adds_at_most.Goals as goal

pub returns : goal.returns
returns c = adds_at_most
