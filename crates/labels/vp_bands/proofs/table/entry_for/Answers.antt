use Rattle.std.proofs.Common.{arith}
use Rattle.std.proofs.lemmas.Int.{to_z-of_z}
use Rattle.vp_bands.specs.Meeting.{field_meets}
use Rattle.vp_bands.proofs.table.entry_for.Goals as goal

pub returns-clause-spanned : goal.returns-clause-spanned
unfolding field_meets
returns-clause-spanned c = grind (arith, to_z-of_z)
