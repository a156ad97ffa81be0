use Rattle.std.proofs.Common.{arith}
use Rattle.std.proofs.lemmas.Int.{to_z-of_z}
use Rattle.vp_dots.proofs.Moves.{moved_then}
use Rattle.vp_field.proofs.Framed.{sides_apart}
use Rattle.vp_field.proofs.frame.Frame.paint_sides.Goals as goal

pub returns : goal.returns
returns c = grind (arith, to_z-of_z, moved_then, sides_apart)
