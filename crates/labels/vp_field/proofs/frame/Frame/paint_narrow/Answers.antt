use Rattle.std.proofs.Common.{arith}
use Rattle.std.proofs.lemmas.Int.{to_z-of_z}
use Rattle.vp_field.proofs.Framed.{line_painted}
use Rattle.vp_field.proofs.frame.Frame.paint_narrow.Goals as goal

pub returns : goal.returns
returns c = grind (arith, to_z-of_z, line_painted)
