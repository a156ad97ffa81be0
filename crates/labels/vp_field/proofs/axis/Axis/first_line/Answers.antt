use Rattle.std.proofs.lemmas.Bool.Decides.{nat_tests}
use Rattle.std.proofs.Common.{arith}
use Rattle.std.proofs.lemmas.Int.{ints, to_z-of_z}
use Rattle.vp_field.proofs.axis.Axis.first_line.Goals as goal

pub returns-in-Back-clause-from : goal.returns-in-Back-clause-from
returns-in-Back-clause-from c = grind (arith, to_z-of_z, ints)

pub returns-in-Back-clause-to : goal.returns-in-Back-clause-to
returns-in-Back-clause-to c = grind (arith, nat_tests, to_z-of_z, ints)
