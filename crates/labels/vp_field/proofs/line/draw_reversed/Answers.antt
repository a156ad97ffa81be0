use Rattle.std.proofs.Common.{arith}
use Rattle.std.proofs.lemmas.Int.{to_z-of_z}
use Rattle.std.proofs.lemmas.List.{length-replicate}
use Rattle.vp_field.proofs.OnWhite.{on_zeros, turned}
use Rattle.vp_field.proofs.line.draw_reversed.Goals as goal

pub returns-clause-dots : goal.returns-clause-dots
returns-clause-dots g c = grind (arith, turned, length-replicate, on_zeros, to_z-of_z)

pub returns-clause-some : goal.returns-clause-some
returns-clause-some g c = grind (arith, on_zeros, turned, length-replicate)
