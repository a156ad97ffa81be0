use Rattle.std.proofs.lemmas.Bool.Decides.{nat_tests}
use Rattle.std.proofs.Common.{arith}
use Rattle.std.proofs.lemmas.Int.{to_z-of_z}
use Rattle.vp_field.proofs.Framed.{side_painted}
use Rattle.vp_field.proofs.frame.paint_side.Goals as goal

pub returns : goal.returns
returns c = grind (arith, nat_tests, to_z-of_z, side_painted)
