use Rattle.std.proofs.Common.{arith}
use Rattle.std.proofs.lemmas.Int.{ints, to_z-of_z}
use Rattle.vp_field.proofs.axis.Axis.row_of.Goals as goal

pub returns-clause-on : goal.returns-clause-on
returns-clause-on c = grind (arith, ints, to_z-of_z)
