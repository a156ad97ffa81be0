use Rattle.vp_zpl.proofs.Growth.{grows}
use Rattle.vp_zpl.proofs.laws.only_more.Goals as goal

pub returns : goal.returns
returns c reading bytes more = let g = grows reading bytes more in (g.added, g.is)
