use Rattle.vp_zpl.proofs.Table.{named_is}
use Rattle.vp_zpl.proofs.laws.names.Goals as goal

pub returns : goal.returns
returns c reading a b = named_is reading a b
