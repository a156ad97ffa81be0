use Rattle.std.proofs.Common.{refl}
use Rattle.vp_format.proofs.Runs.{step_lane}
use Rattle.vp_format.proofs.counted.steps.Goals as goal

pub returns : goal.returns
returns c k l run = step_lane c.args.bytes.now _ c.args.at k c.requires (λ i. (c.type_inv.bytes i).fits) refl l run
