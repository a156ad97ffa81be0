use Rattle.std.proofs.Common.{arith}
use Rattle.std.proofs.lemmas.Nat.{and_le_r}
use Rattle.vp_qr.specs.Walk.{dark}
use Rattle.vp_qr.proofs.PairRows.{right_free, left_free, two_ones, row_placed}
use Rattle.vp_qr.proofs.walk.place_row.Goals as goal

pub returns-clause-count : goal.returns-clause-count
unfolding dark
returns-clause-count c = grind (arith, and_le_r, left_free, right_free, two_ones)

pub returns-clause-placed : goal.returns-clause-placed
unfolding dark
returns-clause-placed c = grind (arith, left_free, right_free, row_placed)
