use Rattle.vp_receipt.proofs.Draws.{draws_at_most}
use Rattle.vp_receipt.proofs.laws.an_item_draws_at_most.Goals as goal

pub returns : goal.returns
returns c = draws_at_most
