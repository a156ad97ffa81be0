use Rattle.std.proofs.Common.{◌≡◌, ◌∷◌, ℕ, ◌<◌, length, get_or}
use Rattle.vp_qr.proofs.check.behind_one.Given as goal

abbrev pub invariant-loop-k : goal.invariant-loop-k
invariant-loop-k l = (length l.row ≡ 32) × ((j : ℕ) → j < l.k → get_or l.row j 0 ≡ get_or (1 ∷ l.low) j 0)
