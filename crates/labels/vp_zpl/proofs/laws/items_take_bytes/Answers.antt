use Rattle.vp_zpl.proofs.Least.{items_least}
use Rattle.vp_zpl.proofs.laws.items_take_bytes.Goals as goal

pub returns : goal.returns
returns c reading bytes = items_least reading bytes
