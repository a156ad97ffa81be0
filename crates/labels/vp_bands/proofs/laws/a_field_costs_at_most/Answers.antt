use Rattle.vp_bands.proofs.Costs.{costs_at_most}
use Rattle.vp_bands.proofs.laws.a_field_costs_at_most.Goals as goal

pub returns : goal.returns
returns c = costs_at_most
