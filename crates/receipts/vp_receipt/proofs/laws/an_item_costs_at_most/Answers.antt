use Rattle.vp_receipt.proofs.Costs.{costs_at_most}
use Rattle.vp_receipt.proofs.laws.an_item_costs_at_most.Goals as goal

pub returns : goal.returns
returns c = costs_at_most
