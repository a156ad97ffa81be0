use Rattle.vp_glyph.proofs.Numbers.{digits_counted}
use Rattle.vp_glyph.proofs.header.number_behind.Goals as goal

pub value-requires : goal.value-requires
value-requires c = λ i l. digits_counted _ _ i c.digits-n.ensures l
