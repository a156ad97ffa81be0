use Rattle.std.proofs.Common.{arith}
use Rattle.std.proofs.lemmas.Int.{to_z-of_z}
use Rattle.vp_dots.proofs.Paints.{painted_none}
use Rattle.vp_dots.proofs.Moves.{moved_same}
use Rattle.vp_dots.proofs.Shifts.{shifted_none}
use Rattle.vp_field.proofs.Framed.{below_frame}
use Rattle.vp_field.proofs.frame.FrameInk.paint_row.Goals as goal

pub returns-then-y-self : goal.returns-then-y-self
returns-then-y-self c = grind (arith, painted_none, shifted_none, below_frame)

pub returns-then-is_solid : goal.returns-then-is_solid
returns-then-is_solid c = grind (arith, to_z-of_z, moved_same)

pub returns : goal.returns
returns c = grind (arith, to_z-of_z, moved_same)
