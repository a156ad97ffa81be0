use Rattle.std.proofs.Common.{◌≡◌, ℕ, ◌<◌, length, get_or}
use Rattle.vp_inflate.proofs.table.fixed_distance.Given as goal

abbrev pub invariant-loop-symbol : goal.invariant-loop-symbol
invariant-loop-symbol l = (length l.lengths ≡ 32) × ((k : ℕ) → k < l.symbol → get_or l.lengths k 0 ≡ 5)
