use Rattle.std.proofs.Common.{arith}
use Rattle.std.proofs.lemmas.Bool.{le-ltb}
use Rattle.std.proofs.lemmas.List.{length-take-le}
use Rattle.vp_copies.proofs.Texts.{dot-take}
use Rattle.vp_copies.proofs.rows.row_of_band.Goals as goal

pub returns-clause-text : goal.returns-clause-text
returns-clause-text g c = grind (arith, length-take-le, dot-take, le-ltb)
