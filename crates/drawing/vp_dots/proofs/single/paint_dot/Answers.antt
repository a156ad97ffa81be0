use Rattle.vp_dots.proofs.Paints.{painted_dot}
use Rattle.vp_dots.proofs.single.paint_dot.Goals as goal

pub returns-then-at-row : goal.returns-then-at-row
returns-then-at-row c = painted_dot _ _ _ _ c.if-at-row.true c.painted_byte.ensures
