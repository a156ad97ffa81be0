use Rattle.vp_field.proofs.Behind.{stored_behind}
use Rattle.vp_field.proofs.laws.stored_behind.Goals as goal

pub returns : goal.returns
returns c = stored_behind
