use Rattle.std.proofs.Common.{◌≡◌, ℕ, ◌<◌, length, get_or, bit_xor}
use Rattle.vp_qr.proofs.check.sum.Given as goal

abbrev pub invariant-loop-k : goal.invariant-loop-k
invariant-loop-k l = (length l.next ≡ 32) × ((j : ℕ) → j < l.k → get_or l.next j 0 ≡ bit_xor (get_or l.one j 0) (get_or l.other j 0))
