use Rattle.std.proofs.Common.{refl}
use Rattle.vp_format.proofs.Runs.{places_sum}
use Rattle.vp_format.proofs.counted.places_added.Goals as goal

pub returns-clause-added : goal.returns-clause-added
returns-clause-added c runs = places_sum c.args.bytes.now _ c.args.at c.requires (λ i. (c.type_inv.bytes i).fits) refl runs
