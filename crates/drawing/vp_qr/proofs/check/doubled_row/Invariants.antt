use Rattle.std.proofs.Common.{◌≡◌, ℕ, ◌<◌, length, get_or}
use Rattle.vp_qr.specs.Field.{doubled}
use Rattle.vp_qr.proofs.check.doubled_row.Given as goal

abbrev pub invariant-loop-k : goal.invariant-loop-k
invariant-loop-k l = (length l.next ≡ 32) × ((j : ℕ) → j < l.k → get_or l.next j 0 ≡ doubled (get_or l.row j 0))
